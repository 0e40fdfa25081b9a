-- A test of lists of pairs, by which worked examples show subtyping: where it says true of a list, each pair of the list is closed.
use Rattle.std.proofs.Common.{◌≡◌, ℕ, List, [], ◌∷◌, ◌++◌, inl, inr, refl, sym, ◌∙◌, ap, ap₂, subst, Option, Some, None, Bool as Truth, true, false, ◌&&◌, ◌||◌, ◌⊎◌}
use Rattle.std.specs.Prelude.{bytes_eq}
use Rattle.std.proofs.lemmas.Slice.Eq.{bytes_eq-Decides}
use Rattle.wy_text.specs.Members.{In, Within}
use Rattle.wy_effects.specs.EffSet.{has}
use Rattle.wy_effects.specs.Bounds.{Bounds, IsWithin}
use Rattle.wy_effects.proofs.SetLaws.{In-has}
use Rattle.wy_effects.proofs.Ordering.{same_within}
use Rattle.wy_types.specs.declared.types.TypeRef.{TypeRef}
use Rattle.wy_types.specs.declared.types.TypeRef.TheVariants.{Int, Bool, Text, Unit as Nothing, Named, At, Own}
use Rattle.wy_types.specs.Keys.{type_key}
use Rattle.wy_types.specs.Signature.{Signature, find_method}
use Rattle.wy_types.specs.Types.{IsObject}
use Rattle.wy_types.specs.Subtyping.{ParamsIn, HasCover, IsClosed, IsSubtype, AnyEffect}
use Rattle.wy_types.proofs.Keyed.{type_once}

abbrev pub Pair : Type 0
Pair = TypeRef × TypeRef

pub both : (a b : Truth) → a && b ≡ true → (a ≡ true) × (b ≡ true)
both true b e = (refl, e)
both false b e = absurd (cc)

pub either : (a b : Truth) → a || b ≡ true → (a ≡ true) ⊎ (b ≡ true)
either true b e = inl refl
either false b e = inr e

abbrev pub same : TypeRef → TypeRef → Truth
same s t = bytes_eq (type_key s) (type_key t)

pub same_is : (s t : TypeRef) → same s t ≡ true → s ≡ t
same_is s t e = (type_once s t [] [] (ap (λ k. k ++ []) ((bytes_eq-Decides (type_key s) (type_key t)).0 e))).0

abbrev pub is_object : TypeRef → Truth
is_object Int = false
is_object Bool = false
is_object Text = false
is_object Nothing = false
is_object (Named d sets) = true
is_object (At d bound) = true
is_object (Own l) = true

object_is : (t : TypeRef) → is_object t ≡ true → IsObject t
object_is Int e = absurd (cc)
object_is Bool e = absurd (cc)
object_is Text e = absurd (cc)
object_is Nothing e = absurd (cc)
object_is (Named d sets) e = tt
object_is (At d bound) e = tt
object_is (Own l) e = tt

abbrev pub is_base : TypeRef → Truth
is_base Int = true
is_base Bool = true
is_base Text = true
is_base Nothing = true
is_base t = false

base_is : (t : TypeRef) → is_base t ≡ true → IsObject t → ⊥
base_is Int e = λ o. o
base_is Bool e = λ o. o
base_is Text e = λ o. o
base_is Nothing e = λ o. o
base_is (Named d sets) e = absurd (cc)
base_is (At d bound) e = absurd (cc)
base_is (Own l) e = absurd (cc)

abbrev pub has_pair : List Pair → TypeRef → TypeRef → Truth
has_pair [] s t = false
has_pair (q ∷ ps) s t = (same q.0 s && same q.1 t) || has_pair ps s t

has_pair_is : (ps : List Pair) (s t : TypeRef) → has_pair ps s t ≡ true → In {X = Pair} (s, t) ps
has_pair_is [] s t e = absurd (cc)
has_pair_is (q ∷ ps) s t e =
    elim (either (same q.0 s && same q.1 t) (has_pair ps s t) e) [
      | inl h ↦ (let b = both (same q.0 s) (same q.1 t) h in inl (ap₂ (λ u v. let r : Pair = (u, v) in r) (same_is q.0 s b.0) (same_is q.1 t b.1)))
      | inr h ↦ inr (has_pair_is ps s t h)
    ]

abbrev pub within : List ℕ → List ℕ → Truth
within [] f = true
within (a ∷ e) f = has a f && within e f

pub within_is : (e f : List ℕ) → within e f ≡ true → Within e f
within_is [] f h = λ a i. absurd i
within_is (a ∷ e) f h =
    let b = both (has a f) (within e f) h in
    λ x i. elim i [
      | inl same ↦ In-has x f (ap (λ z. has z f) (sym same) ∙ b.0)
      | inr j ↦ within_is e f b.1 x j
    ]

-- no test of effects
abbrev pub any_effect : List ℕ → List ℕ → Truth
any_effect e f = true

abbrev pub params_in : List Pair → List TypeRef → List TypeRef → Truth
params_in ps [] [] = true
params_in ps (a ∷ left) (b ∷ right) = has_pair ps b a && params_in ps left right
params_in ps left right = false

params_in_is : (ps : List Pair) (left right : List TypeRef) → params_in ps left right ≡ true → ParamsIn ps left right
params_in_is ps [] [] h = tt
params_in_is ps [] (b ∷ right) h = absurd (cc)
params_in_is ps (a ∷ left) [] h = absurd (cc)
params_in_is ps (a ∷ left) (b ∷ right) h = let c = both (has_pair ps b a) (params_in ps left right) h in (has_pair_is ps b a c.0, params_in_is ps left right c.1)

module _ (methods : TypeRef → List (Signature TypeRef)) (Includes : List ℕ → List ℕ → Type 0) (includes : List ℕ → List ℕ → Truth) (includes_is : (e f : List ℕ) → includes e f ≡ true → Includes e f) where
  abbrev pub covers : List Pair → Option (Signature TypeRef) → Signature TypeRef → Truth
  covers ps None right = false
  covers ps (Some left) right = params_in ps left.params right.params && (includes left.effect right.effect && has_pair ps left.result right.result)

  covers_is : (ps : List Pair) (o : Option (Signature TypeRef)) (right : Signature TypeRef) → covers ps o right ≡ true → HasCover TypeRef methods IsObject Includes ps o right
  covers_is ps None right h = absurd (cc)
  covers_is ps (Some left) right h =
      let b = both (params_in ps left.params right.params) (includes left.effect right.effect && has_pair ps left.result right.result) h in
      let c = both (includes left.effect right.effect) (has_pair ps left.result right.result) b.1 in
      record { params = params_in_is ps left.params right.params b.0; effect = includes_is left.effect right.effect c.0; result = has_pair_is ps left.result right.result c.1 }

  abbrev pub cover_all : List Pair → List (Signature TypeRef) → List (Signature TypeRef) → Truth
  cover_all ps lefts [] = true
  cover_all ps lefts (m ∷ ms) = covers ps (find_method m.name lefts) m && cover_all ps lefts ms

  cover_all_is : (ps : List Pair) (lefts ms : List (Signature TypeRef)) → cover_all ps lefts ms ≡ true → (m : Signature TypeRef) → In m ms → HasCover TypeRef methods IsObject Includes ps (find_method m.name lefts) m
  cover_all_is ps lefts [] h m i = absurd i
  cover_all_is ps lefts (n ∷ ms) h m i =
      let b = both (covers ps (find_method n.name lefts) n) (cover_all ps lefts ms) h in
      elim i [
        | inl e ↦ (let P : Signature TypeRef → Type 0 = λ v. HasCover TypeRef methods IsObject Includes ps (find_method v.name lefts) v in subst P e (covers_is ps (find_method n.name lefts) n b.0))
        | inr j ↦ cover_all_is ps lefts ms b.1 m j
      ]

  abbrev pub closed : List Pair → Pair → Truth
  closed ps q = (is_base q.0 && same q.0 q.1) || (is_object q.0 && (is_object q.1 && cover_all ps (methods q.0) (methods q.1)))

  closed_is : (ps : List Pair) (q : Pair) → closed ps q ≡ true → IsClosed TypeRef methods IsObject Includes ps q
  closed_is ps q h =
      elim (either (is_base q.0 && same q.0 q.1) (is_object q.0 && (is_object q.1 && cover_all ps (methods q.0) (methods q.1))) h) [
        | inl b ↦ (let c = both (is_base q.0) (same q.0 q.1) b in inl (same_is q.0 q.1 c.1, base_is q.0 c.0))
        | inr b ↦ (let c = both (is_object q.0) (is_object q.1 && cover_all ps (methods q.0) (methods q.1)) b in
            let d = both (is_object q.1) (cover_all ps (methods q.0) (methods q.1)) c.1 in
            inr (object_is q.0 c.0, object_is q.1 d.0, cover_all_is ps (methods q.0) (methods q.1) d.1))
      ]

  abbrev pub all_closed : List Pair → List Pair → Truth
  all_closed ps [] = true
  all_closed ps (q ∷ qs) = closed ps q && all_closed ps qs

  all_closed_is : (ps qs : List Pair) → all_closed ps qs ≡ true → (q : Pair) → In q qs → IsClosed TypeRef methods IsObject Includes ps q
  all_closed_is ps [] h q i = absurd i
  all_closed_is ps (r ∷ qs) h q i =
      let b = both (closed ps r) (all_closed ps qs) h in
      elim i [
        | inl e ↦ (let P : Pair → Type 0 = λ v. IsClosed TypeRef methods IsObject Includes ps v in subst P e (closed_is ps r b.0))
        | inr j ↦ all_closed_is ps qs b.1 q j
      ]

  pub subtype_of : (ps : List Pair) (s t : TypeRef) → has_pair ps s t ≡ true → all_closed ps ps ≡ true → IsSubtype TypeRef methods IsObject Includes s t
  subtype_of ps s t h c = record { pairs = ps; first = has_pair_is ps s t h; closed = all_closed_is ps ps c }

-- annotated and plain subtyping over a table, by a list of pairs; over any bounds, since no atom's bound is looked at
pub annotated_subtype : {bounds : Bounds} (methods : TypeRef → List (Signature TypeRef)) (ps : List Pair) (s t : TypeRef) → has_pair ps s t ≡ true →
    all_closed methods (IsWithin bounds) within (λ e f h. same_within bounds e f (within_is e f h)) ps ps ≡ true → IsSubtype TypeRef methods IsObject (IsWithin bounds) s t
annotated_subtype {bounds} methods ps s t h c = subtype_of methods (IsWithin bounds) within (λ e f h. same_within bounds e f (within_is e f h)) ps s t h c

pub plain_subtype : (methods : TypeRef → List (Signature TypeRef)) (ps : List Pair) (s t : TypeRef) → has_pair ps s t ≡ true → all_closed methods AnyEffect any_effect (λ e f h. tt) ps ps ≡ true → IsSubtype TypeRef methods IsObject AnyEffect s t
plain_subtype methods ps s t h c = subtype_of methods AnyEffect any_effect (λ e f h. tt) ps s t h c
