-- Subtyping is kept by a reading of types under which methods stay for the types that count, where the methods of these name such types alone.
use Rattle.std.proofs.Common.{◌≡◌, ℕ, List, [], ◌∷◌, ◌++◌, map, inl, inr, refl, sym, ap, subst, Option}
use Rattle.wy_text.specs.Members.{In}
use Rattle.wy_effects.proofs.Closure.{Decided}
use Rattle.wy_text.proofs.Lists.{In-map, In-unmap, In-left, In-right, In-cases}
use Rattle.wy_types.specs.Signature.{Signature, mapped_signature, find_method}
use Rattle.wy_types.specs.Subtyping.{ParamsIn, HasCover, IsClosed, IsSubtype}
use Rattle.wy_types.proofs.Closing.{cover_from, find_in, find-mapped}

module _ (K L : Type 0) (methods : K → List (Signature K)) (methods' : L → List (Signature L)) (IsObject : K → Type 0) (IsObject' : L → Type 0)
    (Includes Includes' : List ℕ → List ℕ → Type 0) (kind : K → L) (effect : List ℕ → List ℕ) (Counts : K → Type 0) (decide : (t : K) → Decided (Counts t))
    (same : (t : K) → Counts t → methods' (kind t) ≡ map (mapped_signature kind effect) (methods t))
    (parts : (t : K) → Counts t → (m : Signature K) → In m (methods t) → ((u : K) → In u m.params → Counts u) × Counts m.result)
    (object : (t : K) → IsObject t → IsObject' (kind t)) (base : (t : K) → IsObject' (kind t) → IsObject t)
    (included : (e f : List ℕ) → Includes e f → Includes' (effect e) (effect f)) where
  both : K × K → L × L
  both p = (kind p.0, kind p.1)

  -- the pairs of types that count
  if_counts : (p : K × K) → Decided (Counts p.0) → Decided (Counts p.1) → List (K × K)
  if_counts p (inl c) (inl d) = p ∷ []
  if_counts p c d = []

  counting : List (K × K) → List (K × K)
  counting [] = []
  counting (p ∷ ps) = if_counts p (decide p.0) (decide p.1) ++ counting ps

  In-if_counts : (p : K × K) (c : Decided (Counts p.0)) (d : Decided (Counts p.1)) → Counts p.0 → Counts p.1 → In {X = K × K} p (if_counts p c d)
  unfolding if_counts
  In-if_counts p (inl c) (inl d) a b = inl refl
  In-if_counts p (inl c) (inr n) a b = absurd (n b)
  In-if_counts p (inr n) d a b = absurd (n a)

  if_counts-from : (p q : K × K) (c : Decided (Counts p.0)) (d : Decided (Counts p.1)) → In {X = K × K} q (if_counts p c d) → (◌≡◌ {A = K × K} p q) ×
      Counts p.0 × Counts p.1
  unfolding if_counts
  if_counts-from p q (inl c) (inl d) i = elim i [ inl e ↦ (e, c, d) | inr j ↦ absurd j ]
  if_counts-from p q (inl c) (inr n) i = absurd i
  if_counts-from p q (inr n) d i = absurd i

  In-counting : (q : K × K) (ps : List (K × K)) → In {X = K × K} q ps → Counts q.0 → Counts q.1 → In {X = K × K} q (counting ps)
  unfolding counting
  In-counting q [] i a b = absurd i
  In-counting q (p ∷ ps) (inl e) a b =
      let P : K × K → Type 0 = λ v. In {X = K × K} q (if_counts v (decide v.0) (decide v.1) ++ counting ps) in
      subst P (sym e) (In-left {X = K × K} q (if_counts q (decide q.0) (decide q.1)) (counting ps) (In-if_counts q (decide q.0) (decide q.1) a b))
  In-counting q (p ∷ ps) (inr i) a b = In-right {X = K × K} q (if_counts p (decide p.0) (decide p.1)) (counting ps) (In-counting q ps i a b)

  counting-from : (q : K × K) (ps : List (K × K)) → In {X = K × K} q (counting ps) → In {X = K × K} q ps × Counts q.0 × Counts q.1
  unfolding counting
  counting-from q [] i = absurd i
  counting-from q (p ∷ ps) i =
      elim (In-cases {X = K × K} q (if_counts p (decide p.0) (decide p.1)) (counting ps) i) [
        | inl j ↦
            let r = if_counts-from p q (decide p.0) (decide p.1) j in
            let P : K × K → Type 0 = λ v. Counts v.0 × Counts v.1 in
            let c = subst P r.0 (r.1, r.2) in
            (inl r.0, c.0, c.1)
        | inr j ↦ (let r = counting-from q ps j in (inr r.0, r.1, r.2))
      ]

  -- a pair of types that count is among those that are read
  among : (ps : List (K × K)) (s t : K) → In {X = K × K} (s, t) ps → Counts s → Counts t → In {X = L × L} (kind s, kind t) (map both (counting ps))
  unfolding both
  among ps s t i a b = In-map both (s, t) (counting ps) (In-counting (s, t) ps i a b)

  params_read : (ps : List (K × K)) (xs ys : List K) → ((u : K) → In u xs → Counts u) → ((u : K) → In u ys → Counts u) → ParamsIn ps xs ys →
      ParamsIn (map both (counting ps)) (map kind xs) (map kind ys)
  params_read ps [] [] c d h = tt
  params_read ps [] (y ∷ ys) c d h = absurd h
  params_read ps (x ∷ xs) [] c d h = absurd h
  params_read ps (x ∷ xs) (y ∷ ys) c d h =
      (among ps y x h.0 (d y (inl refl)) (c x (inl refl)), params_read ps xs ys (λ u i. c u (inr i)) (λ u i. d u (inr i)) h.1)

  closed_read : (ps : List (K × K)) (p : K × K) → Counts p.0 → Counts p.1 → IsClosed K methods IsObject Includes ps p →
      IsClosed L methods' IsObject' Includes' (map both (counting ps)) (both p)
  unfolding both
  closed_read ps p c d (inl b) = inl (ap kind b.0, λ o. b.1 (base p.0 o))
  closed_read ps p c d (inr h) =
      inr (
        object p.0 h.0,
        object p.1 h.1,
        λ n i.
            let P : List (Signature L) → Type 0 = λ l. In n l in
            let r = In-unmap (mapped_signature kind effect) n (methods p.1) (subst P (same p.1 d) i) in
            let v = cover_from K methods IsObject Includes ps (find_method r.0.name (methods p.0)) r.0 (h.2 r.0 r.1) in
            let left = parts p.0 c v.0 (find_in r.0.name (methods p.0) v.0 v.1) in
            let right = parts p.1 d r.0 r.1 in
            let Q : Signature L → Type 0 =
            λ w. HasCover L methods' IsObject' Includes' (map both (counting ps)) (find_method w.name (methods' (kind p.0))) w in
            let R : List (Signature L) → Type 0 =
            λ l. HasCover L methods' IsObject' Includes' (map both (counting ps)) (find_method r.0.name l) (mapped_signature kind effect r.0) in
            let S : Option (Signature L) → Type 0 =
            λ o. HasCover L methods' IsObject' Includes' (map both (counting ps)) o (mapped_signature kind effect r.0) in
            subst Q r.2 (subst R (sym (same p.0 c)) (subst S (sym (find-mapped kind effect r.0.name (methods p.0) v.0 v.1)) (record {
              params = params_read ps v.0.params r.0.params left.0 right.0 v.2.params;
              effect = included v.0.effect r.0.effect v.2.effect;
              result = among ps v.0.result r.0.result v.2.result left.1 right.1;
            }))),
      )

  pub subtype_kept : (s t : K) → Counts s → Counts t → IsSubtype K methods IsObject Includes s t →
      IsSubtype L methods' IsObject' Includes' (kind s) (kind t)
  unfolding both
  subtype_kept s t c d h = record {
    pairs = map both (counting h.pairs);
    first = among h.pairs s t h.first c d;
    closed = λ q i.
        let r = In-unmap both q (counting h.pairs) i in
        let f = counting-from r.0 h.pairs r.1 in
        let P : L × L → Type 0 = λ v. IsClosed L methods' IsObject' Includes' (map both (counting h.pairs)) v in
        subst P r.2 (closed_read h.pairs r.0 f.1 f.2 (h.closed r.0 f.0));
  }
