-- Rows of sets of numbers, and the numbers that a set lacks.
use Rattle.std.specs.Prelude.{◌≡◌, ℕ, ◌^◌, ◌<◌, List, [], ◌∷◌, length, slice_index_or}
use Rattle.std.specs.List.{range_with_len}
use Rattle.wy_lanes.specs.Numbers.{AllIn, without_numbers}

-- the numbers below 512 that are not in the list
unfoldable pub others : List ℕ → List ℕ
others xs = without_numbers (range_with_len 0 512) xs

-- every number of each row is in the list
abbrev pub AllRowsIn : List (List ℕ) → List ℕ → Type 0
AllRowsIn [] ys = Unit {0}
AllRowsIn (xs ∷ rows) ys = AllIn xs ys × AllRowsIn rows ys

-- eight words of 64 bits
abbrev pub IsRow : List ℕ → Type 0
IsRow words = (length words ≡ 8) × ((k : ℕ) → slice_index_or words k 0 < 2 ^ 64)

-- each list is such a row
abbrev pub AreRows : List (List ℕ) → Type 0
AreRows [] = Unit {0}
AreRows (words ∷ rows) = IsRow words × AreRows rows
