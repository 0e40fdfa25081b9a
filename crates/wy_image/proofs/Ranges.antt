-- The numbers of a short range.
use Rattle.std.proofs.Common.{◌≡◌, ◌⊎◌, ℕ, ◌+◌, ◌≤◌, arith}

pub one_of_2 : (a f : ℕ) → a ≤ f → f ≤ a + 1 → (f ≡ a) ⊎ (f ≡ a + 1)
one_of_2 a f low high = grind arith

pub one_of_3 : (a f : ℕ) → a ≤ f → f ≤ a + 2 → (f ≡ a) ⊎ (f ≡ a + 1) ⊎ (f ≡ a + 2)
one_of_3 a f low high = grind arith

pub one_of_4 : (a f : ℕ) → a ≤ f → f ≤ a + 3 → (f ≡ a) ⊎ (f ≡ a + 1) ⊎ (f ≡ a + 2) ⊎ (f ≡ a + 3)
one_of_4 a f low high = grind arith
