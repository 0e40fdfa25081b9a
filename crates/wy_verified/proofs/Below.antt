-- Chains of subtypes. A chain takes the place of a proof that subtyping is transitive, which would need a decision
-- whether types are equal.
use Rattle.std.proofs.Common.{◌≡◌, ℕ, zero, suc, List, [], ◌∷◌, inl, inr, refl, sym, ap, ◌∙◌, subst, Option, Some, None}
use Rattle.wy_verified.specs.Images.{Image}
use Rattle.wy_verified.specs.Kinds.{Kind, Ints, Truths, Texts, Units, Named, Own, Granted, MethodType, methods}
use Rattle.wy_verified.specs.Kinds.{IsObject, In, Within, Pair, ParamsIn, HasCover, IsClosed, IsSubtype, Fits}

module _ (image : Image) where
  abbrev pub BelowIn : ℕ → Kind → Kind → Type 0
  BelowIn zero i k = i ≡ k
  BelowIn (suc n) i k = (j : Kind) × IsSubtype image i j × BelowIn n j k

  pub record Below (i k : Kind) : Type 0 where
    pub long : ℕ
    pub by : BelowIn long i k

  pub below_refl : (k : Kind) → Below k k
  below_refl k = record { long = 0; by = refl }

  pub below_same : (i k : Kind) → i ≡ k → Below i k
  below_same i k e = record { long = 0; by = e }

  in_more : (n : ℕ) (i j k : Kind) → BelowIn n i j → IsSubtype image j k → Below i k
  in_more zero i j k e s = record { long = 1; by = (k, subst (λ i. IsSubtype image i k) (sym e) s, refl) }
  in_more (suc n) i j k b s = let r = in_more n b.0 j k b.2 s in record { long = suc r.long; by = (b.0, b.1, r.by) }

  pub below_fits : (i j k : Kind) → Below i j → Fits image j k → Below i k
  below_fits i j k b (inl e) = subst (λ k. Below i k) e b
  below_fits i j k b (inr s) = in_more b.long i j k b.by s

  in_trans : (n : ℕ) (i j k : Kind) → BelowIn n i j → Below j k → Below i k
  in_trans zero i j k e b = subst (λ i. Below i k) (sym e) b
  in_trans (suc n) i j k a b = let r = in_trans n a.0 j k a.2 b in record { long = suc r.long; by = (a.0, a.1, r.by) }

  pub below_trans : (i j k : Kind) → Below i j → Below j k → Below i k
  below_trans i j k a b = in_trans a.long i j k a.by b

  abbrev pub AllBelow : List Kind → List Kind → Type 0
  AllBelow [] [] = Unit {0}
  AllBelow [] (k ∷ ks) = ⊥
  AllBelow (i ∷ is) [] = ⊥
  AllBelow (i ∷ is) (k ∷ ks) = Below i k × AllBelow is ks

  all_refl : (ks : List Kind) → AllBelow ks ks
  all_refl [] = tt
  all_refl (k ∷ ks) = (below_refl k, all_refl ks)

  ------------------------------------------------------------
  -- Base types are below themselves alone

  base_sub : (i k : Kind) → IsSubtype image i k → (IsObject k → ⊥) → i ≡ k
  base_sub i k s n = elim (s.closed (i, k) s.first) [ inl e ↦ e.0 | inr o ↦ absurd (n o.1) ]

  base_in : (n : ℕ) (i k : Kind) → BelowIn n i k → (IsObject k → ⊥) → i ≡ k
  base_in zero i k e h = e
  base_in (suc n) i k b h = let e = base_in n b.0 k b.2 h in base_sub i k (subst (λ j. IsSubtype image i j) e b.1) h

  pub below_base : (i k : Kind) → Below i k → (IsObject k → ⊥) → i ≡ k
  below_base i k b h = base_in b.long i k b.by h

  ------------------------------------------------------------
  -- A method of a type is a method of each type below

  pub methods_object : (k : Kind) (m : ℕ) (g : MethodType) → methods image k m ≡ Some g → IsObject k
  methods_object Ints m g e = absurd cc
  methods_object Truths m g e = absurd cc
  methods_object Texts m g e = absurd cc
  methods_object Units m g e = absurd cc
  methods_object (Named t) m g e = tt
  methods_object (Own x l) m g e = tt
  methods_object (Granted d) m g e = tt

  -- the method h stands for g
  pub record StandsFor (h g : MethodType) : Type 0 where
    pub params : AllBelow g.params h.params
    pub effect : Within h.effect g.effect
    pub result : Below h.result g.result

  pub record HasMethod (i : Kind) (m : ℕ) (g : MethodType) : Type 0 where
    pub method : MethodType
    pub there : methods image i m ≡ Some method
    pub stands : StandsFor method g

  of_pair : (ps : List Pair) → ((p : Pair) → In p ps → IsClosed image ps p) → (s t : Kind) → In {X = Pair} (s, t) ps →
      Below s t
  of_pair ps closed s t i = record { long = 1; by = (t, record { pairs = ps; first = i; closed = closed }, refl) }

  of_params : (ps : List Pair) → ((p : Pair) → In p ps → IsClosed image ps p) → (left right : List Kind) →
      ParamsIn ps left right → AllBelow right left
  of_params ps closed [] [] h = tt
  of_params ps closed [] (b ∷ right) h = absurd h
  of_params ps closed (a ∷ left) [] h = absurd h
  of_params ps closed (a ∷ left) (b ∷ right) h = (of_pair ps closed b a h.0, of_params ps closed left right h.1)

  sub_method : (i k : Kind) (m : ℕ) (g : MethodType) → IsSubtype image i k → methods image k m ≡ Some g →
      HasMethod i m g
  sub_method i k m g s e = elim (s.closed (i, k) s.first) [
    | inl f ↦ absurd (f.1 (subst IsObject (sym f.0) (methods_object k m g e)))
    | inr f ↦ covered (methods image i m) refl (f.2 m g e)
  ]
    where
      covered : (o : Option MethodType) → methods image i m ≡ o → HasCover s.pairs o g → HasMethod i m g
      covered None e c = absurd c
      covered (Some h) e c = record {
        method = h;
        there = e;
        stands =
            record {
              params = of_params s.pairs s.closed h.params g.params c.params;
              effect = c.effect;
              result = of_pair s.pairs s.closed h.result g.result c.result;
            };
      }

  pub all_trans : (is js ks : List Kind) → AllBelow is js → AllBelow js ks → AllBelow is ks
  all_trans [] [] [] a b = tt
  all_trans [] [] (k ∷ ks) a b = absurd b
  all_trans [] (j ∷ js) ks a b = absurd a
  all_trans (i ∷ is) [] ks a b = absurd a
  all_trans (i ∷ is) (j ∷ js) [] a b = absurd b
  all_trans (i ∷ is) (j ∷ js) (k ∷ ks) a b = (below_trans i j k a.0 b.0, all_trans is js ks a.1 b.1)

  stands_trans : (h g f : MethodType) → StandsFor h g → StandsFor g f → StandsFor h f
  stands_trans h g f a b = record {
    params = all_trans f.params g.params h.params b.params a.params;
    effect = λ x i. b.effect x (a.effect x i);
    result = below_trans h.result g.result f.result a.result b.result;
  }

  in_method : (n : ℕ) (i k : Kind) (m : ℕ) (g : MethodType) → BelowIn n i k → methods image k m ≡ Some g →
      HasMethod i m g
  in_method zero i k m g b e = record {
    method = g;
    there = ap (λ i. methods image i m) b ∙ e;
    stands = record { params = all_refl g.params; effect = λ x i. i; result = below_refl g.result };
  }
  in_method (suc n) i k m g b e =
      let h = in_method n b.0 k m g b.2 e in
      let f = sub_method i b.0 m h.method b.1 h.there in
      record { method = f.method; there = f.there; stands = stands_trans f.method h.method g f.stands h.stands }

  pub below_method : (i k : Kind) (m : ℕ) (g : MethodType) → Below i k → methods image k m ≡ Some g → HasMethod i m g
  below_method i k m g b e = in_method b.long i k m g b.by e
