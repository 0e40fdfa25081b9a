-- What is gathered along the table: the methods of an entry, and the effects of all of them.
use Rattle.std.proofs.Common.{◌≡◌, ℕ, List, [], ◌∷◌, ◌⊎◌, inl, inr, refl, sym, ap, subst, Bool as Truth, true, false}
use Rattle.std.specs.Prelude.{◌↔◌, if◌then◌else◌}
use Rattle.wy_text.specs.Members.{In}
use Rattle.wy_effects.specs.EffSet.{union}
use Rattle.wy_text.proofs.Lists.{In-map, In-unmap}
use Rattle.wy_effects.proofs.SetLaws.{union-cases, In-union-left, In-union-right}
use Rattle.wy_types.specs.declared.types.TypeRef.{TypeRef}
use Rattle.wy_types.specs.Program.{Program}
use Rattle.wy_types.specs.Signature.{Signature}
use Rattle.wy_types.specs.Types.{methods_of}
use Rattle.wy_types.specs.Paths.{Reaches, IsEffect}
use Rattle.wy_bounds.specs.declared.entry.Entry.{Entry}
use Rattle.wy_bounds.specs.Table.{Mark, mark_of}
use Rattle.wy_bounds.specs.Gathering.{same, methods_at, with_methods, with_entries}
use Rattle.wy_bounds.specs.Worklist.{IsWhole}

same-equal : (a b : Truth) → a ≡ b → same a b ≡ true
same-equal true true e = refl
same-equal false false e = refl
same-equal true false e = absurd (cc)
same-equal false true e = absurd (cc)

same-other : (a b : Truth) → (a ≡ b → ⊥) → same a b ≡ false
same-other true true n = absurd (n refl)
same-other false false n = absurd (n refl)
same-other true false n = refl
same-other false true n = refl

same-true : (a b : Truth) → same a b ≡ true → a ≡ b
same-true true true e = refl
same-true false false e = refl
same-true true false e = absurd (cc)
same-true false true e = absurd (cc)

module _ (p : Program) (scope : ℕ) (positive : Truth) where
  pub methods_at-equal : (e : Entry) → e.positive ≡ positive → methods_at p scope positive e ≡ methods_of p scope e.typ
  methods_at-equal e h = ap (λ b. if b then methods_of p scope e.typ else []) (same-equal e.positive positive h)

  pub methods_at-other : (e : Entry) → (e.positive ≡ positive → ⊥) → methods_at p scope positive e ≡ []
  methods_at-other e n = ap (λ b. if b then methods_of p scope e.typ else []) (same-other e.positive positive n)

  -- a method of an entry of the polarity
  pub methods_at-from : (e : Entry) (m : Signature TypeRef) → In m (methods_at p scope positive e) → (e.positive ≡ positive) × In m (methods_of p scope e.typ)
  methods_at-from e m i =
      elim (same e.positive positive) as (λ b. same e.positive positive ≡ b → In m (if b then methods_of p scope e.typ else []) → (e.positive ≡ positive) × In m (methods_of p scope e.typ)) [
        | true ↦ λ h j. (same-true e.positive positive h, j)
        | false ↦ λ h j. absurd j
      ] refl i

  pub In-methods_at : (e : Entry) (m : Signature TypeRef) → e.positive ≡ positive → In m (methods_of p scope e.typ) → In m (methods_at p scope positive e)
  In-methods_at e m h i = let P : List (Signature TypeRef) → Type 0 = λ l. In m l in subst P (sym (methods_at-equal e h)) i

  -- what the type reaches at the polarity is an entry's
  pub entry_of : (t : TypeRef) (es : List Entry) → IsWhole p scope t es → (u : TypeRef) → Reaches TypeRef (methods_of p scope) t positive u → (e : Entry) × In e es × (e.typ ≡ u) × (e.positive ≡ positive)
  entry_of t es whole u r =
      let q = In-unmap mark_of (u, positive) es (whole.whole positive u r) in
      (q.0, q.1, ap (λ (v : Mark). v.0) q.2, ap (λ (v : Mark). v.1) q.2)

  -- and an entry of the polarity is of what it reaches
  pub reached_at : (t : TypeRef) (es : List Entry) → IsWhole p scope t es → (e : Entry) → In e es → e.positive ≡ positive → Reaches TypeRef (methods_of p scope) t positive e.typ
  reached_at t es whole e i h =
      let P : Truth → Type 0 = λ b. Reaches TypeRef (methods_of p scope) t b e.typ in
      subst P h (whole.seen.reached (mark_of e) (In-map mark_of e es i))

  ------------------------------------------------------------
  -- Effects

  with_methods-old : (ms : List (Signature TypeRef)) (atoms : List ℕ) (a : ℕ) → In a atoms → In a (with_methods ms atoms)
  with_methods-old [] atoms a i = i
  with_methods-old (m ∷ ms) atoms a i = with_methods-old ms (union m.effect atoms) a (In-union-right a m.effect atoms i)

  with_methods-new : (ms : List (Signature TypeRef)) (atoms : List ℕ) (a : ℕ) (m : Signature TypeRef) → In m ms → In a m.effect → In a (with_methods ms atoms)
  with_methods-new [] atoms a m i j = absurd i
  with_methods-new (n ∷ ms) atoms a m (inl e) j =
      let P : Signature TypeRef → Type 0 = λ v. In a v.effect in
      with_methods-old ms (union n.effect atoms) a (In-union-left a n.effect atoms (subst P (sym e) j))
  with_methods-new (n ∷ ms) atoms a m (inr i) j = with_methods-new ms (union n.effect atoms) a m i j

  with_methods-from : (ms : List (Signature TypeRef)) (atoms : List ℕ) (a : ℕ) → In a (with_methods ms atoms) → In a atoms ⊎ ((m : Signature TypeRef) × In m ms × In a m.effect)
  with_methods-from [] atoms a i = inl i
  with_methods-from (m ∷ ms) atoms a i =
      elim (with_methods-from ms (union m.effect atoms) a i) [
        | inl j ↦ elim (union-cases a m.effect atoms j) [ inl k ↦ inr (m, inl refl, k) | inr k ↦ inl k ]
        | inr r ↦ inr (r.0, inr r.1, r.2)
      ]

  with_entries-old : (es : List Entry) (atoms : List ℕ) (a : ℕ) → In a atoms → In a (with_entries p scope positive es atoms)
  with_entries-old [] atoms a i = i
  with_entries-old (e ∷ es) atoms a i = with_entries-old es (with_methods (methods_at p scope positive e) atoms) a (with_methods-old (methods_at p scope positive e) atoms a i)

  with_entries-new : (es : List Entry) (atoms : List ℕ) (a : ℕ) (e : Entry) (m : Signature TypeRef) → In e es → In m (methods_at p scope positive e) → In a m.effect → In a (with_entries p scope positive es atoms)
  with_entries-new [] atoms a e m i j k = absurd i
  with_entries-new (x ∷ es) atoms a e m (inl s) j k =
      let P : Entry → Type 0 = λ v. In m (methods_at p scope positive v) in
      with_entries-old es (with_methods (methods_at p scope positive x) atoms) a (with_methods-new (methods_at p scope positive x) atoms a m (subst P (sym s) j) k)
  with_entries-new (x ∷ es) atoms a e m (inr i) j k = with_entries-new es (with_methods (methods_at p scope positive x) atoms) a e m i j k

  with_entries-from : (es : List Entry) (atoms : List ℕ) (a : ℕ) → In a (with_entries p scope positive es atoms) → In a atoms ⊎ ((e : Entry) × In e es × (m : Signature TypeRef) × In m (methods_at p scope positive e) × In a m.effect)
  with_entries-from [] atoms a i = inl i
  with_entries-from (x ∷ es) atoms a i =
      elim (with_entries-from es (with_methods (methods_at p scope positive x) atoms) a i) [
        | inl j ↦ elim (with_methods-from (methods_at p scope positive x) atoms a j) [ inl k ↦ inl k | inr r ↦ inr (x, inl refl, r.0, r.1, r.2) ]
        | inr r ↦ inr (r.0, inr r.1, r.2, r.3, r.4)
      ]

  -- what is gathered along the whole table is the effects
  pub effects_gathered : (t : TypeRef) (es : List Entry) → IsWhole p scope t es → (s : List ℕ) → s ≡ with_entries p scope positive es [] → (a : ℕ) → In a s ↔ IsEffect TypeRef (methods_of p scope) t positive a
  effects_gathered t es whole s eq a = (
    λ i. let P : List ℕ → Type 0 = λ l. In a l in
        elim (with_entries-from es [] a (subst P eq i)) [
          | inl j ↦ absurd j
          | inr r ↦
              let q = methods_at-from r.0 r.2 r.3 in
              (r.0.typ, reached_at t es whole r.0 r.1 q.0, (r.2, q.1, r.4))
        ],
    λ h. let e = entry_of t es whole h.0 h.1 in
        let Q : TypeRef → Type 0 = λ v. In h.2.0 (methods_of p scope v) in
        let P : List ℕ → Type 0 = λ l. In a l in
        subst P (sym eq) (with_entries-new es [] a e.0 h.2.0 e.1 (In-methods_at e.0 h.2.0 e.3 (subst Q (sym e.2) h.2.1)) h.2.2),
  )
