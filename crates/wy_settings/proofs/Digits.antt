-- Reading more digits makes no number smaller.
use Rattle.std.proofs.Common.{◌≡◌, ◌≤◌, ◌<◌, ◌+◌, ◌*◌, ◌-◌, ℕ, List, [], ◌∷◌, Option, Some, None, true, false, nat_le, if◌then◌else◌, refl, arith}
use Rattle.std.proofs.lemmas.Bool.Decides.{nat_tests}
use Rattle.wy_settings.specs.Numerals.{number_after}

pub number_grows : (read : ℕ) (digits : List ℕ) → read ≤ number_after read digits
number_grows read [] = omega arith
number_grows read (d ∷ ds) = let more : 10 * read + (d - 48) ≤ number_after (10 * read + (d - 48)) ds = number_grows (10 * read + (d - 48)) ds in omega arith

-- the number of digits, where it is no greater than the most
abbrev pub number_within : ℕ → ℕ → Option ℕ
number_within most number = if nat_le number most then Some number else None

pub is_within : (most number : ℕ) → number ≤ most → Some number ≡ number_within most number
is_within most number small = let is : nat_le number most ≡ true = grind (arith, nat_tests) in rw is refl

pub is_past : (most next : ℕ) (digits : List ℕ) → most < next → None ≡ number_within most (number_after next digits)
is_past most next digits past =
    let more : next ≤ number_after next digits = number_grows next digits in
    let is : nat_le (number_after next digits) most ≡ false = grind (arith, nat_tests) in
    rw is refl
