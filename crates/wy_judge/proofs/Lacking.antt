-- The atoms that a declared effect lacks: none in a plain module, else the first of what is left of the body's effect.
use Rattle.std.proofs.Common.{◌≡◌, ℕ, ◌+◌, ◌≤◌, List, [], ◌∷◌, ◌⊎◌, inl, inr, refl, sym, subst, Some, None, Bool as Truth, true, false, arith}
use Rattle.wy_text.specs.Members.{In, Within}
use Rattle.wy_effects.specs.EffSet.{IsSet, IsSetFrom, without}
use Rattle.wy_effects.specs.Bounds.{IsOneOf, IsLeastMissing, IsWidened}
use Rattle.wy_effects.proofs.SetLaws.{cases_equal, IsSetFrom-without, at_least, without-from, In-without}
use Rattle.wy_effects.proofs.Ordering.{missing_exactly, widened_exactly}
use Rattle.wy_types.specs.Program.{Program, Scope}
use Rattle.wy_types.specs.Types.{is_plain}
use Rattle.wy_types.specs.Bounds.{bounds_of}
use Rattle.wy_rules.specs.Acceptance.{reading_of}
use Rattle.wy_judge.specs.Judged.{IsLack}

-- nothing is left where one effect is in the other, and else the first atom that is left is the least
pub nothing_left : (e f : List ℕ) → without e f ≡ [] → Within e f
nothing_left e f h a i =
    elim (cases_in a f) [
      | inl j ↦ j
      | inr n ↦ absurd (subst (λ l. In a l) h (In-without a e f i n))
    ]
  where
    cases_in : (b : ℕ) (xs : List ℕ) → In b xs ⊎ (In b xs → ⊥)
    cases_in b [] = inr (λ z. z)
    cases_in b (x ∷ xs) =
        elim (cases_equal x b) [
          | inl e ↦ inl (inl e)
          | inr n ↦ elim (cases_in b xs) [
            | inl j ↦ inl (inr j)
            | inr m ↦ inr (λ i. elim i [ inl e ↦ n e | inr j ↦ m j ])
          ]
        ]

pub first_left : (n : ℕ) (e f : List ℕ) (a : ℕ) (rest : List ℕ) → IsSet n e → without e f ≡ a ∷ rest → IsLeastMissing IsOneOf a e f
first_left n e f a rest set same =
    let here = without-from a e f (subst (λ l. In a l) (sym same) (inl refl)) in
    let left : IsSetFrom 0 n (a ∷ rest) = subst (λ l. IsSetFrom 0 n l) same (IsSetFrom-without 0 n e f set) in
    (here.0, here.1, λ b i m. at_first b left (subst (λ l. In b l) same (In-without b e f i m)))
  where
    at_first : (b : ℕ) → IsSetFrom 0 n (a ∷ rest) → In b (a ∷ rest) → a ≤ b
    at_first b s (inl e) = omega (arith, e)
    at_first b s (inr j) = let l = at_least (a + 1) n rest b s.2 j in omega (arith, l)

module _ (p : Program) (k : ℕ) where
  plain_allows : (plain : Truth) (f e : List ℕ) → plain ≡ true → (reading_of p k plain).Allows f ((reading_of p k plain).effect e)
  plain_allows true f e h = tt
  plain_allows false f e h = absurd (cc)

  module _ (e wide : List ℕ) (is : IsWidened (bounds_of p k) e wide) where
    within_allows : (plain : Truth) (f : List ℕ) → Within f wide → (reading_of p k plain).Allows f ((reading_of p k plain).effect e)
    within_allows true f h = tt
    within_allows false f h = (widened_exactly (bounds_of p k) f e wide is).1 h

    not_allowed : (plain : Truth) (f : List ℕ) (a : ℕ) → plain ≡ false → IsLeastMissing IsOneOf a f wide →
        ((reading_of p k plain).Allows f ((reading_of p k plain).effect e) → ⊥) × IsLeastMissing (reading_of p k plain).Under a f ((reading_of p k plain).effect e)
    not_allowed true f a h m = absurd (cc)
    not_allowed false f a h m = (let over = (missing_exactly (bounds_of p k) f e wide a is).1 m in (λ i. over.1 (i a m.0), over))

  module _ (s : Scope) where
    -- effects are not looked at
    pub plain_lacks_none : (f e : List ℕ) → is_plain s.kind ≡ true → IsLack p k s f e None
    plain_lacks_none f e h = plain_allows (is_plain s.kind) f e h

    module _ (e wide : List ℕ) (is : IsWidened (bounds_of p k) e wide) where
      -- the effect is in the declared one, which is widened
      pub within_lacks_none : (f : List ℕ) → Within f wide → IsLack p k s f e None
      within_lacks_none f h = within_allows e wide is (is_plain s.kind) f h

      -- an atom is missing
      pub lacks_atom : (f : List ℕ) (a : ℕ) → is_plain s.kind ≡ false → IsLeastMissing IsOneOf a f wide → IsLack p k s f e (Some a)
      lacks_atom f a h m = not_allowed e wide is (is_plain s.kind) f a h m
