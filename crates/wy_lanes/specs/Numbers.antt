-- Finite sets of numbers, each as the one ascending list of its numbers; and the set that words of 64 bits stand for.
use Rattle.std.specs.Prelude.{◌≡◌, ℕ, ◌+◌, ◌*◌, ◌<◌, ◌≤◌, Bool, true, false, List, [], ◌∷◌, Option, None, Some, length, nat_lt, nat_eq, ◌||◌, if◌then◌else◌}
use Rattle.std.specs.List.{filter, range_with_len}
use Rattle.wy_lanes.specs.Words.{has_bit}

-- numbers from k on and below n, in ascending order
abbrev pub IsAscendingFrom : ℕ → ℕ → List ℕ → Type 0
IsAscendingFrom k n [] = Unit {0}
IsAscendingFrom k n (x ∷ xs) = (k ≤ x) × (x < n) × IsAscendingFrom (x + 1) n xs

-- numbers below n, in ascending order
abbrev pub IsAscending : ℕ → List ℕ → Type 0
IsAscending n xs = IsAscendingFrom 0 n xs

-- whether the number is in the list
abbrev pub is_in : ℕ → List ℕ → Bool
is_in a [] = false
is_in a (x ∷ xs) = nat_eq x a || is_in a xs

-- every number of the first list is in the second
abbrev pub AllIn : List ℕ → List ℕ → Type 0
AllIn xs ys = (n : ℕ) → is_in n xs ≡ true → is_in n ys ≡ true

-- the ascending list with one more number
abbrev pub with_number : ℕ → List ℕ → List ℕ
with_number a [] = a ∷ []
with_number a (x ∷ xs) = if nat_lt x a then x ∷ with_number a xs else (if nat_eq x a then x ∷ xs else a ∷ x ∷ xs)

-- the numbers of either list
abbrev pub union_numbers : List ℕ → List ℕ → List ℕ
union_numbers [] ys = ys
union_numbers (x ∷ xs) ys = with_number x (union_numbers xs ys)

-- the numbers of the first list that are not in the second
abbrev pub without_numbers : List ℕ → List ℕ → List ℕ
without_numbers [] ys = []
without_numbers (x ∷ xs) ys = if is_in x ys then without_numbers xs ys else x ∷ without_numbers xs ys

-- the first number of the ascending list that is k or above
abbrev pub first_from : ℕ → List ℕ → Option ℕ
first_from k [] = None
first_from k (x ∷ xs) = if nat_lt x k then first_from k xs else Some x

-- the numbers of the bits that are set in the words, in ascending order
unfoldable pub numbers_of : List ℕ → List ℕ
numbers_of words = filter (has_bit words) (range_with_len 0 (64 * length words))
