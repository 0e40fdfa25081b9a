-- Closed lists of pairs: kept to pairs of types that have a property, where methods of such types name such types, and put together.
use Rattle.std.proofs.Common.{◌≡◌, ℕ, List, [], ◌∷◌, ◌++◌, inl, inr, refl, sym, subst, Option, Some, None}
use Rattle.wy_text.specs.Members.{In}
use Rattle.wy_text.proofs.Lists.{In-left, In-right, In-cases}
use Rattle.wy_effects.proofs.Closure.{Decided}
use Rattle.wy_types.specs.declared.types.TypeRef.{TypeRef}
use Rattle.wy_types.specs.Signature.{Signature, find_method}
use Rattle.wy_types.specs.Types.{IsObject}
use Rattle.wy_types.specs.Subtyping.{ParamsIn, HasCover, IsClosed, IsSubtype}
use Rattle.wy_types.proofs.Closing.{find_in}
use Rattle.wy_rules.specs.PlainMethods.{Methods}
use Rattle.wy_proving.specs.Certified.{Pair}

-- every pair of a list is in another
abbrev pub PairsWithin : List Pair → List Pair → Type 0
PairsWithin ps qs = (q : Pair) → In {X = Pair} q ps → In {X = Pair} q qs

module _ (methods : Methods) (Allows : List ℕ → List ℕ → Type 0) where
  params_more : (ps qs : List Pair) → PairsWithin ps qs → (xs zs : List TypeRef) → ParamsIn ps xs zs → ParamsIn qs xs zs
  params_more ps qs w [] [] h = tt
  params_more ps qs w [] (b ∷ zs) h = absurd h
  params_more ps qs w (a ∷ xs) [] h = absurd h
  params_more ps qs w (a ∷ xs) (b ∷ zs) h = (w (b, a) h.0, params_more ps qs w xs zs h.1)

  cover_more : (ps qs : List Pair) → PairsWithin ps qs → (o : Option (Signature TypeRef)) (m : Signature TypeRef) → HasCover TypeRef methods IsObject Allows ps o m → HasCover TypeRef methods IsObject Allows qs o m
  cover_more ps qs w None m h = absurd h
  cover_more ps qs w (Some n) m h = record { params = params_more ps qs w n.params m.params h.params; effect = h.effect; result = w (n.result, m.result) h.result }

  -- what is closed in a list is closed in a longer one
  pub closed_more : (ps qs : List Pair) → PairsWithin ps qs → (q : Pair) → IsClosed TypeRef methods IsObject Allows ps q → IsClosed TypeRef methods IsObject Allows qs q
  closed_more ps qs w q h = elim h [
    | inl base ↦ inl base
    | inr object ↦ inr (object.0, object.1, λ m i. cover_more ps qs w (find_method m.name (methods q.0)) m (object.2 m i))
  ]

  module _ (P : TypeRef → Type 0) where
    -- closed pairs of types that have the property, those that are asked among them
    pub record Closed (asked : List Pair) : Type 0 where
      pub list : List Pair
      pub has : PairsWithin asked list
      pub closed : (q : Pair) → In {X = Pair} q list → IsClosed TypeRef methods IsObject Allows list q
      pub each : (q : Pair) → In {X = Pair} q list → P q.0 × P q.1

    -- a pair that is asked: a subtyping of types that have the property
    abbrev pub IsAsked : Pair → Type 0
    IsAsked q = IsSubtype TypeRef methods IsObject Allows q.0 q.1 × P q.0 × P q.1

    module _ (decide : (t : TypeRef) → Decided (P t)) (names : (t : TypeRef) → P t → (m : Signature TypeRef) → In m (methods t) → ((u : TypeRef) → In u m.params → P u) × P m.result) where
      decide_both : (q : Pair) → Decided (P q.0 × P q.1)
      decide_both q = elim (decide q.0) [
        | inr n ↦ inr (λ h. n h.0)
        | inl a ↦ elim (decide q.1) [ inl b ↦ inl (a, b) | inr n ↦ inr (λ h. n h.1) ]
      ]

      -- the pairs of types that have the property
      abbrev kept : List Pair → List Pair
      kept [] = []
      kept (q ∷ qs) = elim (decide_both q) [ inl h ↦ q ∷ kept qs | inr n ↦ kept qs ]

      in_kept : (qs : List Pair) (q : Pair) → In {X = Pair} q qs → P q.0 × P q.1 → In {X = Pair} q (kept qs)
      in_kept [] q i h = absurd i
      in_kept (a ∷ qs) q i h =
          elim (decide_both a) as (λ d. In {X = Pair} q (elim d [ inl g ↦ a ∷ kept qs | inr n ↦ kept qs ])) [
            | inl g ↦ elim i [ inl e ↦ inl e | inr j ↦ inr (in_kept qs q j h) ]
            | inr n ↦ elim i [ inl e ↦ absurd (n (let Q : Pair → Type 0 = λ v. P v.0 × P v.1 in subst Q (sym e) h)) | inr j ↦ in_kept qs q j h ]
          ]

      kept_in : (qs : List Pair) (q : Pair) → In {X = Pair} q (kept qs) → In {X = Pair} q qs × P q.0 × P q.1
      kept_in [] q i = absurd i
      kept_in (a ∷ qs) q i =
          elim (decide_both a) as (λ d. In {X = Pair} q (elim d [ inl g ↦ a ∷ kept qs | inr n ↦ kept qs ]) → In {X = Pair} q (a ∷ qs) × P q.0 × P q.1) [
            | inl g ↦ λ h. elim h [ inl e ↦ (let Q : Pair → Type 0 = λ v. P v.0 × P v.1 in (let r = subst Q e g in (inl e, r.0, r.1))) | inr j ↦ (let r = kept_in qs q j in (inr r.0, r.1, r.2)) ]
            | inr n ↦ λ h. (let r = kept_in qs q h in (inr r.0, r.1, r.2))
          ] i

      params_kept : (ps : List Pair) (xs zs : List TypeRef) → ((u : TypeRef) → In u xs → P u) → ((u : TypeRef) → In u zs → P u) → ParamsIn ps xs zs → ParamsIn (kept ps) xs zs
      params_kept ps [] [] f g h = tt
      params_kept ps [] (b ∷ zs) f g h = absurd h
      params_kept ps (a ∷ xs) [] f g h = absurd h
      params_kept ps (a ∷ xs) (b ∷ zs) f g h = (in_kept ps (b, a) h.0 (g b (inl refl), f a (inl refl)), params_kept ps xs zs (λ u i. f u (inr i)) (λ u i. g u (inr i)) h.1)

      cover_kept : (ps : List Pair) (q : Pair) → P q.0 → P q.1 → (m : Signature TypeRef) → In m (methods q.1) → (o : Option (Signature TypeRef)) → find_method m.name (methods q.0) ≡ o →
          HasCover TypeRef methods IsObject Allows ps o m → HasCover TypeRef methods IsObject Allows (kept ps) o m
      cover_kept ps q a b m i None e h = absurd h
      cover_kept ps q a b m i (Some n) e h =
          let left = names q.0 a n (find_in m.name (methods q.0) n e) in
          let right = names q.1 b m i in
          record { params = params_kept ps n.params m.params left.0 right.0 h.params; effect = h.effect; result = in_kept ps (n.result, m.result) h.result (left.1, right.1) }

      kept_closed : (ps : List Pair) → ((q : Pair) → In {X = Pair} q ps → IsClosed TypeRef methods IsObject Allows ps q) → (q : Pair) → In {X = Pair} q (kept ps) → IsClosed TypeRef methods IsObject Allows (kept ps) q
      kept_closed ps closed q i =
          let r = kept_in ps q i in
          elim (closed q r.0) [
            | inl base ↦ inl base
            | inr object ↦ inr (object.0, object.1, λ m j. cover_kept ps q r.1 r.2 m j (find_method m.name (methods q.0)) refl (object.2 m j))
          ]

      -- there is a closed list that has all pairs that are asked
      pub closed_of : (asked : List Pair) → ((q : Pair) → In {X = Pair} q asked → IsAsked q) → Closed asked
      closed_of [] h = record { list = []; has = λ q i. absurd i; closed = λ q i. absurd i; each = λ q i. absurd i }
      closed_of (a ∷ asked) h =
          let one = h a (inl refl) in
          let rest = closed_of asked (λ q i. h q (inr i)) in
          let first = kept one.0.pairs in
          record {
            list = first ++ rest.list;
            has = λ q i. elim i [
              | inl e ↦ In-left {X = Pair} q first rest.list (let Q : Pair → Type 0 = λ v. In {X = Pair} v first in subst Q e (in_kept one.0.pairs a one.0.first (one.1, one.2)))
              | inr j ↦ In-right {X = Pair} q first rest.list (rest.has q j)
            ];
            closed = λ q i. elim (In-cases {X = Pair} q first rest.list i) [
              | inl j ↦ closed_more first (first ++ rest.list) (λ v l. In-left {X = Pair} v first rest.list l) q (kept_closed one.0.pairs one.0.closed q j)
              | inr j ↦ closed_more rest.list (first ++ rest.list) (λ v l. In-right {X = Pair} v first rest.list l) q (rest.closed q j)
            ];
            each = λ q i. elim (In-cases {X = Pair} q first rest.list i) [ inl j ↦ (let r = kept_in one.0.pairs q j in (r.1, r.2)) | inr j ↦ rest.each q j ];
          }
