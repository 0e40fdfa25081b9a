-- Numbers below 0, and the others.
use Rattle.std.proofs.Common.{◌≡◌, true, false, refl, arith}
use Rattle.std.proofs.lemmas.Int.{ints}
use Rattle.std.specs.Prelude.{ℤ, pos, negsuc, ◌<ℤ◌, ◌≤ℤ◌}
use Rattle.wy_text.specs.declared.fault.Place.{Place}
use Rattle.wy_syntax.specs.Trees.{number}
use Rattle.wy_syntax.specs.Canonical.{level_of, is_numbered}

pub level_of-below_zero : (v : ℤ) (p : Place) → v <ℤ pos 0 → level_of (number v p) ≡ 6
level_of-below_zero (pos n) p h = absurd (omega (arith, ints))
level_of-below_zero (negsuc n) p h = refl

pub level_of-from_zero : (v : ℤ) (p : Place) → pos 0 ≤ℤ v → level_of (number v p) ≡ 8
level_of-from_zero (pos n) p h = refl
level_of-from_zero (negsuc n) p h = absurd (omega (arith, ints))

pub is_numbered-below_zero : (v : ℤ) (p : Place) → v <ℤ pos 0 → is_numbered (number v p) ≡ false
is_numbered-below_zero (pos n) p h = absurd (omega (arith, ints))
is_numbered-below_zero (negsuc n) p h = refl

pub is_numbered-from_zero : (v : ℤ) (p : Place) → pos 0 ≤ℤ v → is_numbered (number v p) ≡ true
is_numbered-from_zero (pos n) p h = refl
is_numbered-from_zero (negsuc n) p h = absurd (omega (arith, ints))

pub ruleset number_rules = (level_of-below_zero, level_of-from_zero, is_numbered-below_zero, is_numbered-from_zero)
