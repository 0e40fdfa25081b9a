-- The definitions of specs/, tried on examples.
use Rattle.std.proofs.Common.{codes, ◌≡◌, [], ◌∷◌, ◌++◌, replicate, refl, arith, true, false, Some, None}
use Rattle.wy_lanes.specs.Classes.{is_word, mask_of, masks_of}
use Rattle.wy_lanes.specs.Numbers.{first_from, numbers_of, union_numbers, with_number, without_numbers}
use Rattle.std.specs.List.{range_with_len}
use Rattle.std.proofs.lemmas.Bool.{false≢true}
use Rattle.wy_lanes.specs.Rows.{AllRowsIn, others}
use Rattle.wy_lanes.specs.Words.{AllInside, has_bit, row_of, union_of}

-- ---- words

no_words : union_of [] [] ≡ []
no_words = refl

two_unions : union_of (5 ∷ 0 ∷ []) (3 ∷ 8 ∷ []) ≡ 7 ∷ 8 ∷ []
two_unions = refl

highest_bits : union_of (0x8000_0000_0000_0000 ∷ []) (0x7fff_ffff_ffff_ffff ∷ []) ≡ 0xffff_ffff_ffff_ffff ∷ []
highest_bits = refl

none_inside : AllInside [] []
none_inside = tt

two_inside : AllInside (4 ∷ 0 ∷ []) (5 ∷ 0 ∷ [])
two_inside = (refl, (refl, tt))

bit_outside : AllInside (4 ∷ 2 ∷ []) (5 ∷ 5 ∷ []) → ⊥
bit_outside all = omega (arith, all.1.0)

first_row : row_of (1 ∷ 2 ∷ 3 ∷ 4 ∷ 5 ∷ 6 ∷ 7 ∷ 8 ∷ 9 ∷ 10 ∷ 11 ∷ 12 ∷ 13 ∷ 14 ∷ 15 ∷ 16 ∷ []) 0 ≡ 1 ∷ 2 ∷ 3 ∷ 4 ∷ 5 ∷ 6 ∷ 7 ∷ 8 ∷ []
first_row = refl

second_row : row_of (1 ∷ 2 ∷ 3 ∷ 4 ∷ 5 ∷ 6 ∷ 7 ∷ 8 ∷ 9 ∷ 10 ∷ 11 ∷ 12 ∷ 13 ∷ 14 ∷ 15 ∷ 16 ∷ []) 1 ≡ 9 ∷ 10 ∷ 11 ∷ 12 ∷ 13 ∷ 14 ∷ 15 ∷ 16 ∷ []
second_row = refl

bit_of_second_word : has_bit (0 ∷ 4 ∷ []) 66 ≡ true
bit_of_second_word = refl

other_bit : has_bit (0 ∷ 4 ∷ []) 65 ≡ false
other_bit = refl

bit_past_the_words : has_bit (4 ∷ []) 66 ≡ false
bit_past_the_words = refl

-- ---- bytes

no_bytes : masks_of [] ≡ 0 ∷ 0 ∷ 0 ∷ 0 ∷ []
no_bytes = refl

one_line : masks_of (codes "a \"_\"" ++ (10 ∷ [])) ≡ 32 ∷ 2 ∷ 9 ∷ 20 ∷ []
one_line = refl

other_spaces : masks_of (9 ∷ 13 ∷ 0 ∷ []) ≡ 0 ∷ 0 ∷ 0 ∷ 0 ∷ []
other_spaces = refl

-- the bytes beside the first and the last of each part of the class
ends_of_words : mask_of is_word (codes "/0189:@AZ[^_`az{" ++ (127 ∷ 128 ∷ 255 ∷ [])) ≡ 0x6699e
ends_of_words = refl

last_bit : mask_of is_word (replicate 63 32 ++ codes "z") ≡ 0x8000_0000_0000_0000
last_bit = refl

-- ---- numbers

no_numbers : numbers_of (replicate 8 0) ≡ []
unfolding numbers_of
no_numbers = refl

-- 0, 63, 64 and 127, and the last number of eight words
ends_of_each_word : numbers_of (0x8000_0000_0000_0001 ∷ 0x8000_0000_0000_0001 ∷ 0 ∷ 0 ∷ 0 ∷ 0 ∷ 0 ∷ 0x8000_0000_0000_0000 ∷ []) ≡ 0 ∷ 63 ∷ 64 ∷ 127 ∷ 511 ∷ []
unfolding numbers_of
ends_of_each_word = refl

put_between : with_number 5 (3 ∷ 7 ∷ []) ≡ 3 ∷ 5 ∷ 7 ∷ []
put_between = refl

put_again : with_number 7 (3 ∷ 7 ∷ []) ≡ 3 ∷ 7 ∷ []
put_again = refl

either_list : union_numbers (1 ∷ 4 ∷ 9 ∷ []) (0 ∷ 4 ∷ 8 ∷ []) ≡ 0 ∷ 1 ∷ 4 ∷ 8 ∷ 9 ∷ []
either_list = refl

left_over : without_numbers (1 ∷ 4 ∷ 9 ∷ []) (0 ∷ 4 ∷ 8 ∷ []) ≡ 1 ∷ 9 ∷ []
left_over = refl

first_at_four : first_from 4 (1 ∷ 4 ∷ 9 ∷ []) ≡ Some 4
first_at_four = refl

first_past_four : first_from 5 (1 ∷ 4 ∷ 9 ∷ []) ≡ Some 9
first_past_four = refl

none_past_nine : first_from 10 (1 ∷ 4 ∷ 9 ∷ []) ≡ None
none_past_nine = refl

-- ---- rows

all_but_two : others (range_with_len 0 510) ≡ 510 ∷ 511 ∷ []
unfolding others
all_but_two = refl

two_rows_in : AllRowsIn ([] ∷ [] ∷ []) (4 ∷ [])
two_rows_in = (λ n e. absurd (false≢true e), (λ n e. absurd (false≢true e), tt))

one_row_out : AllRowsIn ((4 ∷ []) ∷ (5 ∷ []) ∷ []) (4 ∷ []) → ⊥
one_row_out all = false≢true (all.1.0 5 refl)
