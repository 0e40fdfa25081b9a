-- What is gathered on the sides of a matrix: exactly the effects of the methods that are reached.
use Rattle.std.proofs.Common.{◌≡◌, ℕ, List, [], ◌∷◌, ◌⊎◌, inl, inr, refl, sym, ap, ◌∙◌, subst, Bool as Truth, true, false}
use Rattle.std.specs.Prelude.{◌↔◌, if◌then◌else◌}
use Rattle.wy_text.specs.Members.{In, Within}
use Rattle.wy_effects.specs.Rows.{IsInAll}
use Rattle.wy_text.proofs.Lists.{In-cases, In-left, In-push}
use Rattle.wy_effects.specs.Bounds.{GoDown, IsUnder}
use Rattle.wy_effects.proofs.Widening.{widened_is}
use Rattle.wy_types.specs.declared.types.TypeRef.{TypeRef}
use Rattle.wy_types.specs.Program.{Program}
use Rattle.wy_types.specs.Signature.{Signature}
use Rattle.wy_types.specs.Types.{methods_of}
use Rattle.wy_types.specs.Paths.{IsSafe}
use Rattle.wy_types.specs.Bounds.{bounds_of}
use Rattle.wy_bounds.specs.declared.entry.Entry.{Entry}
use Rattle.wy_bounds.specs.declared.matrix.Side.{Side}
use Rattle.wy_bounds.specs.declared.matrix.Matrix.{Matrix}
use Rattle.wy_bounds.specs.Gathering.{wide_of, methods_at, with_methods, with_entries}
use Rattle.wy_bounds.specs.Matrix.{no_effects, with_effect, with_effects, side_of, IsSide, IsMatrix}
use Rattle.wy_bounds.specs.Worklist.{IsWhole}
use Rattle.wy_bounds.proofs.Unions.{effects_gathered, entry_of, methods_at-from, In-methods_at, methods_at-equal, methods_at-other, reached_at}

------------------------------------------------------------
-- The effects of methods

module _ (wide : List ℕ → List ℕ) where
  with_effects-atoms : (ms : List (Signature TypeRef)) (side : Side) → (with_effects wide ms side).atoms ≡ with_methods ms side.atoms
  with_effects-atoms [] side = refl
  with_effects-atoms (m ∷ ms) side = with_effects-atoms ms (with_effect wide m.effect side)

  with_effects-old : (ms : List (Signature TypeRef)) (side : Side) (x : List ℕ) → In x side.rows → In x (with_effects wide ms side).rows
  with_effects-old [] side x i = i
  with_effects-old (m ∷ ms) side x i = with_effects-old ms (with_effect wide m.effect side) x (In-left x side.rows (wide m.effect ∷ []) i)

  with_effects-new : (ms : List (Signature TypeRef)) (side : Side) (m : Signature TypeRef) → In m ms → In (wide m.effect) (with_effects wide ms side).rows
  with_effects-new [] side m i = absurd i
  with_effects-new (n ∷ ms) side m (inl e) =
      let P : Signature TypeRef → Type 0 = λ v. In (wide v.effect) (with_effects wide ms (with_effect wide n.effect side)).rows in
      subst P e (with_effects-old ms (with_effect wide n.effect side) (wide n.effect) (In-push (wide n.effect) side.rows))
  with_effects-new (n ∷ ms) side m (inr i) = with_effects-new ms (with_effect wide n.effect side) m i

  with_effects-from : (ms : List (Signature TypeRef)) (side : Side) (x : List ℕ) → In x (with_effects wide ms side).rows → In x side.rows ⊎ ((m : Signature TypeRef) × In m ms × (wide m.effect ≡ x))
  with_effects-from [] side x i = inl i
  with_effects-from (m ∷ ms) side x i =
      elim (with_effects-from ms (with_effect wide m.effect side) x i) [
        | inl j ↦ elim (In-cases x side.rows (wide m.effect ∷ []) j) [ inl k ↦ inl k | inr (inl e) ↦ inr (m, inl refl, e) | inr (inr none) ↦ absurd none ]
        | inr r ↦ inr (r.0, inr r.1, r.2)
      ]

module _ (p : Program) (scope : ℕ) (positive : Truth) where
  ------------------------------------------------------------
  -- Those of entries

  side_of-atoms : (es : List Entry) (side : Side) → (side_of p scope positive es side).atoms ≡ with_entries p scope positive es side.atoms
  side_of-atoms [] side = refl
  side_of-atoms (e ∷ es) side =
      side_of-atoms es (with_effects (wide_of p scope) (methods_at p scope positive e) side) ∙ ap (with_entries p scope positive es) (with_effects-atoms (wide_of p scope) (methods_at p scope positive e) side)

  side_of-old : (es : List Entry) (side : Side) (x : List ℕ) → In x side.rows → In x (side_of p scope positive es side).rows
  side_of-old [] side x i = i
  side_of-old (e ∷ es) side x i =
      side_of-old es (with_effects (wide_of p scope) (methods_at p scope positive e) side) x (with_effects-old (wide_of p scope) (methods_at p scope positive e) side x i)

  side_of-new : (es : List Entry) (side : Side) (e : Entry) (m : Signature TypeRef) → In e es → In m (methods_at p scope positive e) → In (wide_of p scope m.effect) (side_of p scope positive es side).rows
  side_of-new [] side e m i j = absurd i
  side_of-new (x ∷ es) side e m (inl s) j =
      let P : Entry → Type 0 = λ v. In m (methods_at p scope positive v) in
      side_of-old es (with_effects (wide_of p scope) (methods_at p scope positive x) side) (wide_of p scope m.effect) (with_effects-new (wide_of p scope) (methods_at p scope positive x) side m (subst P (sym s) j))
  side_of-new (x ∷ es) side e m (inr i) j = side_of-new es (with_effects (wide_of p scope) (methods_at p scope positive x) side) e m i j

  side_of-from : (es : List Entry) (side : Side) (x : List ℕ) → In x (side_of p scope positive es side).rows →
      In x side.rows ⊎ ((e : Entry) × In e es × (m : Signature TypeRef) × In m (methods_at p scope positive e) × (wide_of p scope m.effect ≡ x))
  side_of-from [] side x i = inl i
  side_of-from (e ∷ es) side x i =
      elim (side_of-from es (with_effects (wide_of p scope) (methods_at p scope positive e) side) x i) [
        | inl j ↦ elim (with_effects-from (wide_of p scope) (methods_at p scope positive e) side x j) [ inl k ↦ inl k | inr r ↦ inr (e, inl refl, r.0, r.1, r.2) ]
        | inr r ↦ inr (r.0, inr r.1, r.2, r.3, r.4)
      ]

  -- what is gathered along the whole table is the side of a matrix
  pub side_is : (t : TypeRef) (es : List Entry) → IsWhole p scope t es → (side : Side) → side ≡ side_of p scope positive es no_effects → IsSide p scope t positive side
  side_is t es whole side eq =
      record {
        atoms = effects_gathered p scope positive t es whole side.atoms (ap (λ (s : Side). s.atoms) eq ∙ side_of-atoms es no_effects);
        rows = λ x. (
          λ i. (let P : Side → Type 0 = λ s. In x s.rows in
              elim (side_of-from es no_effects x (subst P eq i)) [
                | inl j ↦ absurd j
                | inr r ↦ (let q = methods_at-from p scope positive r.0 r.2 r.3 in (r.0.typ, reached_at p scope positive t es whole r.0 r.1 q.0, (r.2, q.1, r.4)))
              ]),
          λ h. (let e = entry_of p scope positive t es whole h.0 h.1 in
              let Q : TypeRef → Type 0 = λ v. In h.2.0 (methods_of p scope v) in
              let P : Side → Type 0 = λ s. In x s.rows in
              let R : List ℕ → Type 0 = λ y. In y (side_of p scope positive es no_effects).rows in
              subst P (sym eq) (subst R h.2.2 (side_of-new es no_effects e.0 h.2.0 e.1 (In-methods_at p scope positive e.0 h.2.0 e.3 (subst Q (sym e.2) h.2.1))))),
        );
      }

  -- the set is in all rows exactly where the type is safe for it
  pub safe_rows : GoDown (bounds_of p scope) → (t : TypeRef) (side : Side) → IsSide p scope t positive side → (atoms : List ℕ) →
      IsInAll atoms side.rows ↔ IsSafe TypeRef (methods_of p scope) (IsUnder (bounds_of p scope)) t positive atoms
  safe_rows down t side is atoms = (
    λ all u r m i a j. ((widened_is (bounds_of p scope) down m.effect) a).0 (all (wide_of p scope m.effect) ((is.rows (wide_of p scope m.effect)).1 (u, r, (m, i, refl))) a j),
    λ safe row i.
        let f = (is.rows row).0 i in
        subst (Within atoms) f.2.2 (λ a j. ((widened_is (bounds_of p scope) down f.2.0.effect) a).1 (safe f.0 f.1 f.2.0 f.2.1 a j)),
  )

-- the side at a polarity
pub side_at : (p : Program) (scope : ℕ) (t : TypeRef) (m : Matrix) → IsMatrix p scope t m → (positive : Truth) → IsSide p scope t positive (if positive then m.positive else m.negative)
side_at p scope t m is true = is.positive_is
side_at p scope t m is false = is.negative_is

-- an entry of the polarity adds the effects of its methods
pub side_of-here : (p : Program) (scope : ℕ) (positive : Truth) (e : Entry) (rest : List Entry) (ms : List (Signature TypeRef)) (side new : Side) → e.positive ≡ positive → ms ≡ methods_of p scope e.typ →
    new ≡ with_effects (wide_of p scope) ms side → side_of p scope positive rest new ≡ side_of p scope positive (e ∷ rest) side
side_of-here p scope positive e rest ms side new same found is =
    ap (side_of p scope positive rest) (is ∙ ap (λ (l : List (Signature TypeRef)). with_effects (wide_of p scope) l side) (found ∙ sym (methods_at-equal p scope positive e same)))

-- one of the other adds none
pub side_of-past : (p : Program) (scope : ℕ) (positive : Truth) (e : Entry) (rest : List Entry) (side : Side) → (e.positive ≡ positive → ⊥) →
    side_of p scope positive rest side ≡ side_of p scope positive (e ∷ rest) side
side_of-past p scope positive e rest side other =
    ap (λ (l : List (Signature TypeRef)). side_of p scope positive rest (with_effects (wide_of p scope) l side)) (sym (methods_at-other p scope positive e other))
