-- Subtyping is transitive, over any types that are equal or not.
use Rattle.std.proofs.Common.{◌≡◌, ℕ, List, [], ◌∷◌, ◌++◌, inl, inr, refl, sym, ap, ◌∙◌, subst, Option}
use Rattle.wy_text.specs.Members.{In, Within}
use Rattle.wy_effects.proofs.Closure.{Decided}
use Rattle.wy_text.proofs.Lists.{In-left, In-right, In-cases}
use Rattle.wy_types.specs.Signature.{Signature, find_method}
use Rattle.wy_types.specs.Subtyping.{ParamsIn, HasCover, IsClosed, IsSubtype}
use Rattle.wy_types.proofs.Closing.{find_in, find_named, cover_from, ParamsIn-more}

module _ (K : Type 0) (decide : (x y : K) → Decided (x ≡ y)) where
  -- from a to c where a pair of each list meets at b
  with_middle : (p q : K × K) → Decided (p.1 ≡ q.0) → List (K × K)
  with_middle p q (inl e) = (p.0, q.1) ∷ []
  with_middle p q (inr n) = []

  with_each : K × K → List (K × K) → List (K × K)
  with_each p [] = []
  with_each p (q ∷ qs) = with_middle p q (decide p.1 q.0) ++ with_each p qs

  pub composed : List (K × K) → List (K × K) → List (K × K)
  composed [] qs = []
  composed (p ∷ ps) qs = with_each p qs ++ composed ps qs

  In-with_middle : (a b c : K) (d : Decided (b ≡ b)) → In {X = K × K} (a, c) (with_middle (a, b) (b, c) d)
  unfolding with_middle
  In-with_middle a b c (inl e) = inl refl
  In-with_middle a b c (inr n) = absurd (n refl)

  In-with_each : (a b c : K) (qs : List (K × K)) → In {X = K × K} (b, c) qs → In {X = K × K} (a, c) (with_each (a, b) qs)
  unfolding with_each
  In-with_each a b c [] h = absurd h
  In-with_each a b c (q ∷ qs) (inl e) =
      let P : K × K → Type 0 = λ v. In {X = K × K} (a, c) (with_middle (a, b) v (decide b v.0) ++ with_each (a, b) qs) in
      subst P (sym e) (In-left {X = K × K} (a, c) (with_middle (a, b) (b, c) (decide b b)) (with_each (a, b) qs) (In-with_middle a b c (decide b b)))
  In-with_each a b c (q ∷ qs) (inr h) = In-right {X = K × K} (a, c) (with_middle (a, b) q (decide b q.0)) (with_each (a, b) qs) (In-with_each a b c qs h)

  In-composed : (a b c : K) (ps qs : List (K × K)) → In {X = K × K} (a, b) ps → In {X = K × K} (b, c) qs → In {X = K × K} (a, c) (composed ps qs)
  unfolding composed
  In-composed a b c [] qs h g = absurd h
  In-composed a b c (p ∷ ps) qs (inl e) g =
      let P : K × K → Type 0 = λ v. In {X = K × K} (a, c) (with_each v qs ++ composed ps qs) in
      subst P (sym e) (In-left {X = K × K} (a, c) (with_each (a, b) qs) (composed ps qs) (In-with_each a b c qs g))
  In-composed a b c (p ∷ ps) qs (inr h) g = In-right {X = K × K} (a, c) (with_each p qs) (composed ps qs) (In-composed a b c ps qs h g)

  -- where a pair of the composed list comes from
  abbrev Meets : List (K × K) → List (K × K) → K × K → Type 0
  Meets ps qs r = (b : K) × In {X = K × K} (r.0, b) ps × In {X = K × K} (b, r.1) qs

  with_middle-from : (p q r : K × K) (d : Decided (p.1 ≡ q.0)) → In r (with_middle p q d) → (p.1 ≡ q.0) × (◌≡◌ {A = K × K} (p.0, q.1) r)
  unfolding with_middle
  with_middle-from p q r (inl e) h = elim h [ inl f ↦ (e, f) | inr g ↦ absurd g ]
  with_middle-from p q r (inr n) h = absurd h

  with_each-from : (p r : K × K) (qs : List (K × K)) → In r (with_each p qs) → (r.0 ≡ p.0) × In {X = K × K} (p.1, r.1) qs
  unfolding with_each
  with_each-from p r [] h = absurd h
  with_each-from p r (q ∷ qs) h =
      elim (In-cases r (with_middle p q (decide p.1 q.0)) (with_each p qs) h) [
        | inl g ↦
            let m = with_middle-from p q r (decide p.1 q.0) g in
            (sym (ap (λ (v : K × K). v.0) m.1), inl (ap (λ (t : K). let v : K × K = (t, q.1) in v) (sym m.0) ∙ ap (λ (t : K). let v : K × K = (p.1, t) in v) (ap (λ (v : K × K). v.1) m.1)))
        | inr g ↦ (let m = with_each-from p r qs g in (m.0, inr m.1))
      ]

  composed-from : (ps qs : List (K × K)) (r : K × K) → In r (composed ps qs) → Meets ps qs r
  unfolding composed
  composed-from [] qs r h = absurd h
  composed-from (p ∷ ps) qs r h =
      elim (In-cases r (with_each p qs) (composed ps qs) h) [
        | inl g ↦
            let m = with_each-from p r qs g in
            (p.1, inl (ap (λ (t : K). let v : K × K = (t, p.1) in v) (sym m.0)), m.1)
        | inr g ↦ (let m = composed-from ps qs r g in (m.0, inr m.1, m.2))
      ]

  ParamsIn-composed : (ps qs : List (K × K)) (xs ys zs : List K) → ParamsIn ps xs ys → ParamsIn qs ys zs → ParamsIn (composed qs ps) xs zs
  ParamsIn-composed ps qs [] [] [] h g = tt
  ParamsIn-composed ps qs [] [] (z ∷ zs) h g = absurd g
  ParamsIn-composed ps qs [] (y ∷ ys) zs h g = absurd h
  ParamsIn-composed ps qs (x ∷ xs) [] zs h g = absurd h
  ParamsIn-composed ps qs (x ∷ xs) (y ∷ ys) [] h g = absurd g
  ParamsIn-composed ps qs (x ∷ xs) (y ∷ ys) (z ∷ zs) h g = (In-composed z y x qs ps g.0 h.0, ParamsIn-composed ps qs xs ys zs h.1 g.1)

  module _ (methods : K → List (Signature K)) (IsObject : K → Type 0) (Includes : List ℕ → List ℕ → Type 0)
      (onward : (e f g : List ℕ) → Includes e f → Includes f g → Includes e g) where
    closed_composed : (ps qs rs : List (K × K)) (a b c : K) → Within (composed ps qs) rs → Within (composed qs ps) rs →
        IsClosed K methods IsObject Includes ps (a, b) → IsClosed K methods IsObject Includes qs (b, c) → IsClosed K methods IsObject Includes rs (a, c)
    closed_composed ps qs rs a b c w v (inl f) (inl g) = inl (f.0 ∙ g.0, f.1)
    closed_composed ps qs rs a b c w v (inl f) (inr g) =
        let P : K → Type 0 = λ t. IsObject t → ⊥ in
        absurd (subst P f.0 f.1 g.0)
    closed_composed ps qs rs a b c w v (inr f) (inl g) = absurd (g.1 f.1)
    closed_composed ps qs rs a b c w v (inr f) (inr g) =
        inr (
          f.0,
          g.1,
          λ n i.
              let m = cover_from K methods IsObject Includes qs (find_method n.name (methods b)) n (g.2 n i) in
              let name : m.0.name ≡ n.name = find_named n.name (methods b) m.0 m.1 in
              let P : List ℕ → Type 0 = λ k. HasCover K methods IsObject Includes ps (find_method k (methods a)) m.0 in
              let l = cover_from K methods IsObject Includes ps (find_method n.name (methods a)) m.0 (subst P name (f.2 m.0 (find_in n.name (methods b) m.0 m.1))) in
              let Q : Option (Signature K) → Type 0 = λ o. HasCover K methods IsObject Includes rs o n in
              subst Q (sym l.1) (record {
                params = ParamsIn-more (composed qs ps) rs l.0.params n.params v (ParamsIn-composed ps qs l.0.params m.0.params n.params l.2.params m.2.params);
                effect = onward l.0.effect m.0.effect n.effect l.2.effect m.2.effect;
                result = w (l.0.result, n.result) (In-composed l.0.result m.0.result n.result ps qs l.2.result m.2.result);
              }),
        )

    pub transitive : (a b c : K) → IsSubtype K methods IsObject Includes a b → IsSubtype K methods IsObject Includes b c → IsSubtype K methods IsObject Includes a c
    transitive a b c f g =
        let ps : List (K × K) = f.pairs in
        let qs : List (K × K) = g.pairs in
        let one : List (K × K) = composed ps qs in
        let two : List (K × K) = composed qs ps in
        let rs : List (K × K) = one ++ two in
        let w : Within one rs = λ p i. In-left p one two i in
        let v : Within two rs = λ p i. In-right p one two i in
        record {
          pairs = rs;
          first = w (a, c) (In-composed a b c ps qs f.first g.first);
          closed = λ r i. elim (In-cases r one two i) [
            | inl j ↦ (let m = composed-from ps qs r j in closed_composed ps qs rs r.0 m.0 r.1 w v (f.closed (r.0, m.0) m.1) (g.closed (m.0, r.1) m.2))
            | inr j ↦ (let m = composed-from qs ps r j in closed_composed qs ps rs r.0 m.0 r.1 v w (g.closed (r.0, m.0) m.1) (f.closed (m.0, r.1) m.2))
          ];
        }
