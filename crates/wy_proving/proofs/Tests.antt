-- Tests that hold: of two at once, and of numbers that are the same.
use Rattle.std.proofs.Common.{◌≡◌, ℕ, List, refl, subst, Bool as Truth, true, false}
use Rattle.wy_types.specs.declared.types.TypeRef.TheVariants.{At}
use Rattle.wy_rules.specs.Canonical.{both, same_numbers}
use Rattle.wy_rules.proofs.SameTypes.{types_are_told_apart}

pub both_true : (a b : Truth) → a ≡ true → b ≡ true → both a b ≡ true
both_true true b e f = f
both_true false b e f = absurd (cc)

-- the same numbers, by the test of types that stand at them
pub numbers_exact : (e f : List ℕ) → same_numbers e f ≡ true → e ≡ f
numbers_exact e f h = let same : At 0 e ≡ At 0 f = (types_are_told_apart (At 0 e) (At 0 f)).0 h in cc

pub numbers_fit : (e f : List ℕ) → e ≡ f → same_numbers e f ≡ true
numbers_fit e f h = subst (λ v. same_numbers e v ≡ true) h ((types_are_told_apart (At 0 e) (At 0 e)).1 refl)
