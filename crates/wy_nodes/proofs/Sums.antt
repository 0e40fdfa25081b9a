-- Sums whose parts are equal.
use Rattle.std.proofs.Common.{◌≡◌, ℕ, ◌+◌, arith}

pub sum_of_three : {a b c x y z : ℕ} → a ≡ x → b ≡ y → c ≡ z → a + b + c ≡ x + y + z
sum_of_three p q r = omega arith

pub sum_of_four : {a b c d x y z w : ℕ} → a ≡ x → b ≡ y → c ≡ z → d ≡ w → a + b + c + d ≡ x + y + z + w
sum_of_four p q r s = omega arith
