-- Equal or a subtype, over the types of a run: reflexive, transitive, base types below themselves alone, and what is known of methods.
use Rattle.std.proofs.Common.{◌≡◌, ℕ, List, [], ◌∷◌, inl, inr, refl, sym, ap, ◌∙◌, subst, Option, Some, None}
use Rattle.wy_text.specs.Members.{In, Within}
use Rattle.wy_types.specs.Program.{Program}
use Rattle.wy_types.specs.Signature.{Signature, find_method}
use Rattle.wy_types.specs.Subtyping.{ParamsIn, HasCover, IsClosed, IsSubtype}
use Rattle.wy_types.proofs.Closing.{find_in, find_named}
use Rattle.wy_types.proofs.Composing.{transitive}
use Rattle.wy_rules.specs.GroundTypes.{GroundType, IsGroundObject, ground_methods}
use Rattle.wy_rules.proofs.RunReadings.{decide_ground}
use Rattle.wy_sound.specs.Arguments.{ground_below}

module _ (p : Program) where
  abbrev pub Below : GroundType → GroundType → Type 0
  Below s t = ground_below p s t

  abbrev IsSub : GroundType → GroundType → Type 0
  IsSub s t = IsSubtype GroundType (ground_methods p) IsGroundObject Within s t

  pub below_trans : (s t u : GroundType) → Below s t → Below t u → Below s u
  below_trans s t u (inl e) q = subst (λ v. Below v u) (sym e) q
  below_trans s t u (inr h) (inl e) = inr (subst (λ v. IsSub s v) e h)
  below_trans s t u (inr h) (inr q) =
      inr (transitive GroundType decide_ground (ground_methods p) IsGroundObject Within (λ e f g v u a j. u a (v a j)) s t u h q)

  -- below a base type there is that type alone
  pub below_base : (s t : GroundType) → (IsGroundObject t → ⊥) → Below s t → s ≡ t
  below_base s t base (inl e) = e
  below_base s t base (inr h) = elim (h.closed (s, t) h.first) [ inl c ↦ c.0 | inr c ↦ absurd (base c.1) ]

  abbrev pub AllBelow : List GroundType → List GroundType → Type 0
  AllBelow [] [] = Unit {0}
  AllBelow (s ∷ ss) (t ∷ ts) = Below s t × AllBelow ss ts
  AllBelow [] (t ∷ ts) = ⊥
  AllBelow (s ∷ ss) [] = ⊥

  all_same : (ts : List GroundType) → AllBelow ts ts
  all_same [] = tt
  all_same (t ∷ ts) = (inl refl, all_same ts)

  -- a method that stands for another: it takes what the other takes, does no more, and gives what the other gives
  pub record StandsFor (h g : Signature GroundType) : Type 0 where
    pub params : AllBelow g.params h.params
    pub effect : Within h.effect g.effect
    pub result : Below h.result g.result

  pub record HasMethodFor (name : List ℕ) (s : GroundType) (g : Signature GroundType) : Type 0 where
    pub method : Signature GroundType
    pub found : find_method name (ground_methods p s) ≡ Some method
    pub stands : StandsFor method g

  module _ (ps : List (GroundType × GroundType))
      (closed : (q : GroundType × GroundType) → In q ps → IsClosed GroundType (ground_methods p) IsGroundObject Within ps q) where
    listed : (s t : GroundType) → In {X = GroundType × GroundType} (s, t) ps → IsSub s t
    listed s t i = record { pairs = ps; first = i; closed = closed }

    params_below : (left right : List GroundType) → ParamsIn ps left right → AllBelow right left
    params_below [] [] h = tt
    params_below [] (b ∷ right) h = absurd h
    params_below (a ∷ left) [] h = absurd h
    params_below (a ∷ left) (b ∷ right) h = (inr (listed b a h.0), params_below left right h.1)

    covered : (o : Option (Signature GroundType)) (g : Signature GroundType) → HasCover GroundType (ground_methods p) IsGroundObject Within ps o g →
        (h : Signature GroundType) × (o ≡ Some h) × StandsFor h g
    covered None g c = absurd c
    covered (Some h) g c = (
      h,
      refl,
      record {
        params = params_below h.params g.params c.params;
        effect = c.effect;
        result =
            inr (listed h.result g.result c.result);
      },
    )

  same_method : (name : List ℕ) (s t : GroundType) (g : Signature GroundType) → s ≡ t → find_method name (ground_methods p t) ≡ Some g →
      HasMethodFor name s g
  same_method name s t g e f = record {
    method = g;
    found = ap (λ v. find_method name (ground_methods p v)) e ∙ f;
    stands = record { params = all_same g.params; effect = λ a i. i; result = inl refl };
  }

  -- each method of a type has one of a type below it that stands for it
  pub method_below : (s t : GroundType) (name : List ℕ) (g : Signature GroundType) → Below s t → find_method name (ground_methods p t) ≡ Some g →
      HasMethodFor name s g
  method_below s t name g (inl e) f = same_method name s t g e f
  method_below s t name g (inr h) f = elim (h.closed (s, t) h.first) [
    | inl c ↦ same_method name s t g c.0 f
    | inr c ↦ (let called : g.name ≡ name = find_named name (ground_methods p t) g f in
        let r = covered h.pairs h.closed (find_method g.name (ground_methods p s)) g (c.2 g (find_in name (ground_methods p t) g f)) in
        record { method = r.0; found = ap (λ n. find_method n (ground_methods p s)) (sym called) ∙ r.1; stands = r.2 })
  ]
