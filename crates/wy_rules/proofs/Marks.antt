-- A test of lists of types at a polarity, by which worked examples show effects and safety: a list that has each part of each
-- method's signature at its polarity has all that is reached.
use Rattle.std.proofs.Common.{◌≡◌, ℕ, List, [], ◌∷◌, inl, inr, refl, ◌∙◌, ap, ap₂, subst, Bool as Truth, true, false, not, ◌&&◌, ◌||◌}
use Rattle.wy_text.specs.Members.{In, Within}
use Rattle.wy_text.proofs.Lists.{In-slice_get}
use Rattle.wy_effects.specs.Bounds.{Bounds, IsUnder, by_member}
use Rattle.wy_types.specs.declared.types.TypeRef.{TypeRef}
use Rattle.wy_types.specs.declared.path.Part.{Part}
use Rattle.wy_types.specs.declared.path.Part.TheVariants.{Parameter, Result}
use Rattle.wy_types.specs.declared.path.Step.{Step}
use Rattle.wy_types.specs.Signature.{Signature}
use Rattle.wy_types.specs.Paths.{turned, is_positive, IsPartOf, Walks, Reaches, EffectsWithin, IsSafe}
use Rattle.wy_rules.proofs.Closed.{both, either, same, same_is, within, within_is}

abbrev pub Mark : Type 0
Mark = TypeRef × Truth

abbrev pub alike : Truth → Truth → Truth
alike true b = b
alike false b = not b

alike_is : (a b : Truth) → alike a b ≡ true → a ≡ b
alike_is true true e = refl
alike_is true false e = absurd (cc)
alike_is false true e = absurd (cc)
alike_is false false e = refl

abbrev pub has_mark : List Mark → TypeRef → Truth → Truth
has_mark [] t b = false
has_mark (q ∷ ms) t b = (same q.0 t && alike q.1 b) || has_mark ms t b

pub has_mark_is : (ms : List Mark) (t : TypeRef) (b : Truth) → has_mark ms t b ≡ true → In {X = Mark} (t, b) ms
has_mark_is [] t b e = absurd (cc)
has_mark_is (q ∷ ms) t b e =
    elim (either (same q.0 t && alike q.1 b) (has_mark ms t b) e) [
      | inl h ↦ (let c = both (same q.0 t) (alike q.1 b) h in inl (ap₂ (λ u v. let r : Mark = (u, v) in r) (same_is q.0 t c.0) (alike_is q.1 b c.1)))
      | inr h ↦ inr (has_mark_is ms t b h)
    ]

abbrev pub params_marked : List Mark → Truth → List TypeRef → Truth
params_marked ms b [] = true
params_marked ms b (t ∷ ts) = has_mark ms t b && params_marked ms b ts

params_marked_is : (ms : List Mark) (b : Truth) (ts : List TypeRef) → params_marked ms b ts ≡ true → (t : TypeRef) → In t ts → In {X = Mark} (t, b) ms
params_marked_is ms b [] h t i = absurd i
params_marked_is ms b (u ∷ ts) h t i =
    let c = both (has_mark ms u b) (params_marked ms b ts) h in
    elim i [
      | inl e ↦ (let P : TypeRef → Type 0 = λ v. In {X = Mark} (v, b) ms in subst P e (has_mark_is ms u b c.0))
      | inr j ↦ params_marked_is ms b ts c.1 t j
    ]

module _ (methods : TypeRef → List (Signature TypeRef)) where
  abbrev pub signatures_marked : List Mark → Truth → List (Signature TypeRef) → Truth
  signatures_marked ms b [] = true
  signatures_marked ms b (m ∷ gs) = (params_marked ms (not b) m.params && has_mark ms m.result b) && signatures_marked ms b gs

  signatures_marked_is : (ms : List Mark) (b : Truth) (gs : List (Signature TypeRef)) → signatures_marked ms b gs ≡ true → (m : Signature TypeRef) → In m gs →
      (params_marked ms (not b) m.params ≡ true) × (has_mark ms m.result b ≡ true)
  signatures_marked_is ms b [] h m i = absurd i
  signatures_marked_is ms b (g ∷ gs) h m i =
      let c = both (params_marked ms (not b) g.params && has_mark ms g.result b) (signatures_marked ms b gs) h in
      elim i [
        | inl e ↦ (let P : Signature TypeRef → Type 0 = λ v. (params_marked ms (not b) v.params ≡ true) × (has_mark ms v.result b ≡ true) in subst P e (both (params_marked ms (not b) g.params) (has_mark ms g.result b) c.0))
        | inr j ↦ signatures_marked_is ms b gs c.1 m j
      ]

  abbrev pub all_marked : List Mark → List Mark → Truth
  all_marked ms [] = true
  all_marked ms (q ∷ qs) = signatures_marked ms q.1 (methods q.0) && all_marked ms qs

  all_marked_is : (ms qs : List Mark) → all_marked ms qs ≡ true → (q : Mark) → In q qs → signatures_marked ms q.1 (methods q.0) ≡ true
  all_marked_is ms [] h q i = absurd i
  all_marked_is ms (r ∷ qs) h q i =
      let c = both (signatures_marked ms r.1 (methods r.0)) (all_marked ms qs) h in
      elim i [
        | inl e ↦ (let P : Mark → Type 0 = λ v. signatures_marked ms v.1 (methods v.0) ≡ true in subst P e c.0)
        | inr j ↦ all_marked_is ms qs c.1 q j
      ]

  -- the polarity at the end of a path that begins at one
  abbrev followed : List Step → Truth → Truth
  followed [] b = b
  followed (s ∷ path) b = followed path (turned s.part b)

  part_marked : (ms : List Mark) (b : Truth) (m : Signature TypeRef) (part : Part) (u : TypeRef) → (params_marked ms (not b) m.params ≡ true) × (has_mark ms m.result b ≡ true) →
      IsPartOf TypeRef methods m part u → In {X = Mark} (u, turned part b) ms
  part_marked ms b m Result u h e = (let P : TypeRef → Type 0 = λ v. In {X = Mark} (v, b) ms in subst P e (has_mark_is ms m.result b h.1))
  part_marked ms b m (Parameter i) u h e = params_marked_is ms (not b) m.params h.0 u (In-slice_get m.params i u e)

  walks_marked : (ms : List Mark) → all_marked ms ms ≡ true → (path : List Step) (b : Truth) (t u : TypeRef) → In {X = Mark} (t, b) ms → Walks TypeRef methods t path u → In {X = Mark} (u, followed path b) ms
  walks_marked ms h [] b t u i e = (let P : TypeRef → Type 0 = λ v. In {X = Mark} (v, b) ms in subst P e i)
  walks_marked ms h (s ∷ path) b t u i w =
      let g = w.1 in
      let c = signatures_marked_is ms b (methods t) (all_marked_is ms ms h (t, b) i) g.method g.has in
      walks_marked ms h path (turned s.part b) w.0 u (part_marked ms b g.method s.part w.0 c g.part) w.2

  turned-followed : (part : Part) (path : List Step) (b : Truth) → followed path (turned part b) ≡ turned part (followed path b)
  turned-followed part [] b = refl
  turned-followed part (s ∷ path) b = ap (followed path) (exchanged s.part part b) ∙ turned-followed part path (turned s.part b)
    where
      exchanged : (q r : Part) (b : Truth) → turned q (turned r b) ≡ turned r (turned q b)
      exchanged Result r b = refl
      exchanged (Parameter i) Result b = refl
      exchanged (Parameter i) (Parameter j) b = refl

  followed-positive : (path : List Step) → followed path true ≡ is_positive path
  followed-positive [] = refl
  followed-positive (s ∷ path) = turned-followed s.part path true ∙ ap (turned s.part) (followed-positive path)

  pub reached_marked : (ms : List Mark) (t : TypeRef) → has_mark ms t true ≡ true → all_marked ms ms ≡ true → (b : Truth) (u : TypeRef) → Reaches TypeRef methods t b u → In {X = Mark} (u, b) ms
  reached_marked ms t k h b u r =
      let P : Truth → Type 0 = λ v. In {X = Mark} (u, v) ms in
      subst P (followed-positive r.0 ∙ r.2) (walks_marked ms h r.0 true t u (has_mark_is ms t true k) r.1)

  -- the effects at one polarity, and their test
  abbrev pub all_within : List (Signature TypeRef) → List ℕ → Truth
  all_within [] e = true
  all_within (m ∷ gs) e = within m.effect e && all_within gs e

  all_within_is : (gs : List (Signature TypeRef)) (e : List ℕ) → all_within gs e ≡ true → (m : Signature TypeRef) → In m gs → Within m.effect e
  all_within_is [] e h m i = absurd i
  all_within_is (g ∷ gs) e h m i =
      let c = both (within g.effect e) (all_within gs e) h in
      elim i [
        | inl s ↦ (let P : Signature TypeRef → Type 0 = λ v. Within v.effect e in subst P s (within_is g.effect e c.0))
        | inr j ↦ all_within_is gs e c.1 m j
      ]

  abbrev pub effects_in : List Mark → Truth → List ℕ → Truth
  effects_in [] b e = true
  effects_in (q ∷ ms) b e = (not (alike q.1 b) || all_within (methods q.0) e) && effects_in ms b e

  effects_in_is : (ms : List Mark) (b : Truth) (e : List ℕ) → effects_in ms b e ≡ true → (u : TypeRef) → In {X = Mark} (u, b) ms → (m : Signature TypeRef) → In m (methods u) → Within m.effect e
  effects_in_is [] b e h u i m j = absurd i
  effects_in_is (q ∷ ms) b e h u i m j =
      let c = both (not (alike q.1 b) || all_within (methods q.0) e) (effects_in ms b e) h in
      elim i [
        | inl s ↦ (let P : Mark → Type 0 = λ v. ((not (alike v.1 b) || all_within (methods v.0) e) ≡ true) in
            all_within_is (methods u) e (unlike b (all_within (methods u) e) (subst P s c.0)) m j)
        | inr k ↦ effects_in_is ms b e c.1 u k m j
      ]
    where
      unlike : (b x : Truth) → (not (alike b b) || x) ≡ true → x ≡ true
      unlike true x h = h
      unlike false x h = h

  -- all effects at a polarity are in a set
  pub effects_are_within : (bounds : Bounds) (ms : List Mark) (t : TypeRef) (b : Truth) (e : List ℕ) → has_mark ms t true ≡ true → all_marked ms ms ≡ true → effects_in ms b e ≡ true → EffectsWithin TypeRef methods (IsUnder bounds) t b e
  effects_are_within bounds ms t b e k h c a i =
      let q = i.2 in by_member a (effects_in_is ms b e c i.0 (reached_marked ms t k h b i.0 i.1) q.0 q.1 a q.2)

  -- a set is in each effect at a polarity
  abbrev pub all_around : List (Signature TypeRef) → List ℕ → Truth
  all_around [] e = true
  all_around (m ∷ gs) e = within e m.effect && all_around gs e

  all_around_is : (gs : List (Signature TypeRef)) (e : List ℕ) → all_around gs e ≡ true → (m : Signature TypeRef) → In m gs → Within e m.effect
  all_around_is [] e h m i = absurd i
  all_around_is (g ∷ gs) e h m i =
      let c = both (within e g.effect) (all_around gs e) h in
      elim i [
        | inl s ↦ (let P : Signature TypeRef → Type 0 = λ v. Within e v.effect in subst P s (within_is e g.effect c.0))
        | inr j ↦ all_around_is gs e c.1 m j
      ]

  abbrev pub safe_in : List Mark → Truth → List ℕ → Truth
  safe_in [] b e = true
  safe_in (q ∷ ms) b e = (not (alike q.1 b) || all_around (methods q.0) e) && safe_in ms b e

  safe_in_is : (ms : List Mark) (b : Truth) (e : List ℕ) → safe_in ms b e ≡ true → (u : TypeRef) → In {X = Mark} (u, b) ms → (m : Signature TypeRef) → In m (methods u) → Within e m.effect
  safe_in_is [] b e h u i m j = absurd i
  safe_in_is (q ∷ ms) b e h u i m j =
      let c = both (not (alike q.1 b) || all_around (methods q.0) e) (safe_in ms b e) h in
      elim i [
        | inl s ↦ (let P : Mark → Type 0 = λ v. ((not (alike v.1 b) || all_around (methods v.0) e) ≡ true) in
            all_around_is (methods u) e (unlike b (all_around (methods u) e) (subst P s c.0)) m j)
        | inr k ↦ safe_in_is ms b e c.1 u k m j
      ]
    where
      unlike : (b x : Truth) → (not (alike b b) || x) ≡ true → x ≡ true
      unlike true x h = h
      unlike false x h = h

  pub is_safe_for : (bounds : Bounds) (ms : List Mark) (t : TypeRef) (b : Truth) (e : List ℕ) → has_mark ms t true ≡ true → all_marked ms ms ≡ true → safe_in ms b e ≡ true → IsSafe TypeRef methods (IsUnder bounds) t b e
  is_safe_for bounds ms t b e k h c u r m i a j = by_member a (safe_in_is ms b e c u (reached_marked ms t k h b u r) m i a j)
