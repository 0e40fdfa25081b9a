-- Sums and greater numbers, as far as the machine counts.
use Rattle.std.proofs.Common.{◌≡◌, ◌≤◌, ℕ, suc, ◌+◌, ◌-◌, ◌^◌, max, arith}
use Rattle.wy_lower.specs.Capped.{capped}

-- a number of the machine is as it is
pub capped_same : (n : ℕ) → n ≤ 2 ^ 64 - 1 → n ≡ capped n
capped_same n le = omega arith

pub sum_more : (r a n b : ℕ) → r ≡ capped (a + b) → a ≡ capped n → r ≡ capped (n + b)
sum_more r a n b is more = omega arith

pub sum_behind : (r a b m : ℕ) → r ≡ capped (a + b) → b ≡ capped m → r ≡ capped (a + m)
sum_behind r a b m is more = omega arith

pub more_behind : (r b m : ℕ) → r ≡ capped (1 + b) → b ≡ capped m → r ≡ capped (suc m)
more_behind r b m is more = omega arith

pub capped_max : (r a b n m : ℕ) → r ≡ max a b → a ≡ capped n → b ≡ capped m → r ≡ capped (max n m)
capped_max r a b n m is first second = omega arith
