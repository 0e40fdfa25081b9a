-- The kinds of numbers.
use Rattle.std.proofs.Common.{◌≡◌, refl, arith}
use Rattle.std.proofs.lemmas.Int.{ints}
use Rattle.std.specs.Prelude.{ℤ, pos, negsuc, ◌<ℤ◌, ◌≤ℤ◌}
use Rattle.wy_parser.specs.Parsing.{value_of_int}
use Rattle.wy_text.specs.declared.token.TokenKind.TheVariants as kind
use Rattle.wy_syntax.specs.Tokens.{code_of}

pub below_zero : (v : ℤ) → v <ℤ pos 0 → code_of (kind.Number v) ≡ 0
below_zero (pos n) h = absurd (omega (arith, ints))
below_zero (negsuc n) h = refl

pub from_zero : (v : ℤ) → pos 0 ≤ℤ v → code_of (kind.Number v) ≡ 2
from_zero (pos n) h = refl
from_zero (negsuc n) h = absurd (omega (arith, ints))

pub ruleset number_rules = (below_zero, from_zero)

pub none_below : (v : ℤ) → v <ℤ pos 0 → pos (value_of_int v) ≡ pos 0
none_below (pos n) h = absurd (omega (arith, ints))
none_below (negsuc n) h = refl

pub same_value : (v : ℤ) → pos 0 ≤ℤ v → pos (value_of_int v) ≡ v
same_value (pos n) h = refl
same_value (negsuc n) h = absurd (omega (arith, ints))

pub ruleset value_rules = (none_below, same_value)
