-- The numbers of words: which they are, that they ascend, and what they become as the words change.
use Rattle.std.proofs.Common.{◌≡◌, ℕ, zero, suc, ◌+◌, ◌-◌, ◌*◌, ◌/◌, ◌%◌, ◌^◌, ◌<◌, ◌≤◌, min, List, [], ◌∷◌, ◌++◌, inl, inr, Bool, true, false, cond, ◌&&◌, ◌||◌, not, Some, None, nat_eq, length, map, get_or, set, bit_and, bit_or, Fits, w64, refl, sym, ap, ap₂, ◌∙◌, arith, add-zero, zero-add, pow-suc, length-append, length-set}
use Rattle.std.proofs.Math.ListN.{get_or-eq_default}
use Rattle.std.specs.List.{filter, range_with_len, sum_by}
use Rattle.std.specs.Int.{bit_at, bit_not}
use Rattle.std.specs.Int.RustNames.{count_ones}
use Rattle.std.specs.Simd.Lanes.{Each1, zip2}
use Rattle.std.proofs.lemmas.Bool.{cases_eq, cases_lt, eq-eqb, ne_eqb, false_from_ne_true}
use Rattle.std.proofs.lemmas.List.{get_or-map, length-map}
use Rattle.std.proofs.lemmas.List.Elements.{filter-append}
use Rattle.std.proofs.lemmas.List.Sums.{sum_by-cons}
use Rattle.std.proofs.lemmas.Nat.{ones-le, shr-shr, shr_le}
use Rattle.std.proofs.lemmas.Nat.Bits.{bit_at-lt, bit_at-suc, bit_at-trailing_zeros, bit_at-zero, bit_at_above, bit_at_and, bit_at_lowest, bit_at_not}
use Rattle.std.proofs.lemmas.Simd.{get_or-zip2, length-zip2}
use lib.Count.{count_trailing_zeros, ones_step}
use Rattle.wy_lanes.specs.Words.{AllInside, has_bit, union_of}
use Rattle.wy_lanes.specs.Numbers.{AllIn, IsAscending, IsAscendingFrom, first_from, is_in, numbers_of, union_numbers, with_number, without_numbers}
use Rattle.wy_lanes.proofs.Bits.{AllInside-from_bits, has_bit-at, has_bit-inside, has_bit-set, has_bit-union_of, words_from_bits}
use Rattle.wy_lanes.proofs.NumberLaws.{IsAscendingFrom-union_numbers, IsAscendingFrom-weaken, IsAscendingFrom-with_number, IsAscendingFrom-without_numbers, at_least, below_end, first_from-none, first_from-some, is_in-union_numbers, is_in-with_number, is_in-without_numbers, same_numbers}

IsAscendingFrom-filter : (p : ℕ → Bool) (a n e : ℕ) → a + n ≤ e → IsAscendingFrom a e (filter p (range_with_len a n))
IsAscendingFrom-filter p a zero e le = tt
IsAscendingFrom-filter p a (suc n) e le =
    let rest = filter p (range_with_len (a + 1) n) in
    let ascending : IsAscendingFrom (a + 1) e rest = IsAscendingFrom-filter p (a + 1) n e (omega (arith, le)) in
    elim (p a) as (λ t. IsAscendingFrom a e (cond t (a ∷ rest) rest)) [
      | true ↦ (omega arith, omega (arith, le), ascending)
      | false ↦ IsAscendingFrom-weaken a (a + 1) e rest (omega arith) ascending
    ]

is_in-filter : (p : ℕ → Bool) (a n m : ℕ) → a ≤ m → m < a + n → is_in m (filter p (range_with_len a n)) ≡ p m
is_in-filter p a zero m above below = absurd (omega (arith, above, below))
is_in-filter p a (suc n) m above below =
    let rest = filter p (range_with_len (a + 1) n) in
    elim (cases_eq a m) [
      | inl same ↦ elim (p a) as (λ t. p a ≡ t → is_in m (cond t (a ∷ rest) rest) ≡ p m) [
        | true ↦ λ e. ap (λ (t : Bool). t || is_in m rest) (eq-eqb a m same) ∙ sym e ∙ ap p same
        | false ↦ λ e. false_from_ne_true (is_in m rest) (λ i. (let l : a + 1 ≤ m = at_least (a + 1) (a + 1 + n) rest m (IsAscendingFrom-filter p (a + 1) n (a + 1 + n) (omega arith)) i in omega (arith, l, same)))
            ∙ sym e ∙ ap p same
      ] refl
      | inr other ↦ (let later = is_in-filter p (a + 1) n m (omega (arith, above, other)) (omega (arith, below)) in
          elim (p a) as (λ t. is_in m (cond t (a ∷ rest) rest) ≡ p m) [
            | true ↦ ap (λ (t : Bool). t || is_in m rest) (ne_eqb a m other) ∙ later
            | false ↦ later
          ])
    ]

-- no bit past the last word is set
pub has_bit-past : (words : List ℕ) (m : ℕ) → 64 * length words ≤ m → has_bit words m ≡ false
has_bit-past words m past =
    ap (λ (w : ℕ). nat_eq (bit_at w (m % 64)) 1) (get_or-eq_default words 0 {n = m / 64} (omega (arith, past)))
    ∙ ap (λ (b : ℕ). nat_eq b 1) (bit_at-zero (m % 64))

-- the numbers of words ascend
pub IsAscending-numbers_of : (words : List ℕ) (n : ℕ) → 64 * length words ≤ n → IsAscending n (numbers_of words)
unfolding numbers_of
IsAscending-numbers_of words n le = IsAscendingFrom-filter (has_bit words) 0 (64 * length words) n (omega (arith, le))

-- a number is among those of the words exactly where its bit is set
pub is_in-numbers_of : (m : ℕ) (words : List ℕ) → is_in m (numbers_of words) ≡ has_bit words m
unfolding numbers_of
is_in-numbers_of m words =
    elim (cases_lt m (64 * length words)) [
      | inl below ↦ is_in-filter (has_bit words) 0 (64 * length words) m (omega arith) (omega (arith, below))
      | inr past ↦ false_from_ne_true _ (λ i. (let l : m < 64 * length words = below_end 0 (64 * length words) _ m (IsAscendingFrom-filter (has_bit words) 0 (64 * length words) (64 * length words) (omega arith)) i in omega (arith, l, past)))
          ∙ sym (has_bit-past words m past)
    ]

eq_turned : (a b : ℕ) → nat_eq a b ≡ nat_eq b a
eq_turned a b =
    elim (cases_eq a b) [
      | inl same ↦ eq-eqb a b same ∙ sym (eq-eqb b a (sym same))
      | inr other ↦ ne_eqb a b other ∙ sym (ne_eqb b a (λ e. other (sym e)))
    ]

-- where `1 << n % 64` is put into word n / 64, the numbers are those and n
pub numbers_of-set : (words : List ℕ) (n : ℕ) → length words ≡ 8 → n < 512
    → numbers_of (set words (n / 64) (bit_or (get_or words (n / 64) 0) (1 * 2 ^ (n % 64) % 2 ^ 64))) ≡ with_number n (numbers_of words)
numbers_of-set words n long small =
    let v = bit_or (get_or words (n / 64) 0) (1 * 2 ^ (n % 64) % 2 ^ 64) in
    same_numbers 0 512 (numbers_of (set words (n / 64) v)) (with_number n (numbers_of words))
    (IsAscending-numbers_of (set words (n / 64) v) 512 (omega (arith, long, length-set words (n / 64) v)))
    (IsAscendingFrom-with_number n 0 512 (numbers_of words) (omega arith) small (IsAscending-numbers_of words 512 (omega (arith, long))))
    (λ m. is_in-numbers_of m (set words (n / 64) v) ∙ has_bit-set words n m (omega (arith, small, long)) ∙ ap₂ (λ (s t : Bool). s || t) (eq_turned m n) (sym (is_in-numbers_of m words))
    ∙ sym (is_in-with_number n m (numbers_of words)))

length-union_of : (xs ys : List ℕ) → length xs ≡ length ys → length (union_of xs ys) ≡ length xs
length-union_of [] ys long = refl
length-union_of (x ∷ xs) [] long = absurd (omega (arith, long))
length-union_of (x ∷ xs) (y ∷ ys) long = ap suc (length-union_of xs ys (omega (arith, long)))

or_turned : (p q : Bool) → (p || q) ≡ (q || p)
or_turned true true = refl
or_turned true false = refl
or_turned false true = refl
or_turned false false = refl

-- the numbers of united words are the numbers of both
pub numbers_of-union_of : (xs ys : List ℕ) → length xs ≡ 8 → length ys ≡ 8 → numbers_of (union_of xs ys) ≡ union_numbers (numbers_of ys) (numbers_of xs)
numbers_of-union_of xs ys long_xs long_ys =
    same_numbers 0 512 (numbers_of (union_of xs ys)) (union_numbers (numbers_of ys) (numbers_of xs))
    (IsAscending-numbers_of (union_of xs ys) 512 (omega (arith, long_xs, long_ys, length-union_of xs ys (long_xs ∙ sym long_ys))))
    (IsAscendingFrom-union_numbers 0 512 (numbers_of ys) (numbers_of xs) (IsAscending-numbers_of ys 512 (omega (arith, long_ys))) (IsAscending-numbers_of xs 512 (omega (arith, long_xs))))
    (λ m. is_in-numbers_of m (union_of xs ys) ∙ has_bit-union_of xs ys m (long_xs ∙ sym long_ys) ∙ or_turned (has_bit xs m) (has_bit ys m)
    ∙ sym (is_in-union_numbers m (numbers_of ys) (numbers_of xs) ∙ ap₂ (λ (s t : Bool). s || t) (is_in-numbers_of m ys) (is_in-numbers_of m xs)))

-- where no word has a bit outside, every number is among the others
pub AllIn-from_inside : (xs ys : List ℕ) → length xs ≡ length ys → AllInside xs ys → AllIn (numbers_of xs) (numbers_of ys)
AllIn-from_inside xs ys long all m i = is_in-numbers_of m ys ∙ has_bit-inside xs ys long all m (sym (is_in-numbers_of m xs) ∙ i)

pub AllInside-from_in : (xs ys : List ℕ) → ((k : ℕ) → get_or xs k 0 < 2 ^ 64) → AllIn (numbers_of xs) (numbers_of ys) → AllInside xs ys
AllInside-from_in xs ys fit all = AllInside-from_bits xs ys fit (λ m lt set. sym (is_in-numbers_of m ys) ∙ all m (is_in-numbers_of m xs ∙ set))

-- words that have the same numbers are the same
pub words_from_numbers : (xs ys : List ℕ) → length xs ≡ length ys → ((k : ℕ) → get_or xs k 0 < 2 ^ 64) → ((k : ℕ) → get_or ys k 0 < 2 ^ 64) → numbers_of xs ≡ numbers_of ys → xs ≡ ys
words_from_numbers xs ys long fit_xs fit_ys same =
    words_from_bits xs ys long fit_xs fit_ys (λ m lt. sym (is_in-numbers_of m xs) ∙ ap (is_in m) same ∙ is_in-numbers_of m ys)

-- each of the words has 64 bits
pub each_fits : (words : List ℕ) → Each1 (Fits w64) words → (k : ℕ) → get_or words k 0 < 2 ^ 64
each_fits [] fits k = omega arith
each_fits (x ∷ xs) fits zero = fits.0.fits
each_fits (x ∷ xs) fits (suc k) = each_fits xs fits.1 k

abbrev pub difference_of : List ℕ → List ℕ → List ℕ
difference_of xs ys = zip2 bit_and xs (map (bit_not w64) ys)

first_alone : (u v : ℕ) → u < 2 → v < 2 → nat_eq (min u (1 - v)) 1 ≡ (nat_eq u 1 && not (nat_eq v 1))
first_alone zero zero small_u small_v = refl
first_alone zero (suc zero) small_u small_v = refl
first_alone (suc zero) zero small_u small_v = refl
first_alone (suc zero) (suc zero) small_u small_v = refl
first_alone u (suc (suc v)) small_u small_v = absurd (omega (arith, small_v))
first_alone (suc (suc u)) v small_u small_v = absurd (omega (arith, small_u))

length-difference_of : (xs ys : List ℕ) → length xs ≡ length ys → length (difference_of xs ys) ≡ length xs
length-difference_of xs ys long = length-zip2 bit_and xs (map (bit_not w64) ys) (long ∙ sym (length-map ys (bit_not w64)))

has_bit-difference_of : (xs ys : List ℕ) (m : ℕ) → length xs ≡ length ys → ((k : ℕ) → get_or ys k 0 < 2 ^ 64) → has_bit (difference_of xs ys) m ≡ (has_bit xs m && not (has_bit ys m))
has_bit-difference_of xs ys m long fit =
    let k = m / 64 in
    let i = m % 64 in
    let x = get_or xs k 0 in
    let y = get_or ys k 0 in
    let long_not = length-map ys (bit_not w64) in
    elim (cases_lt k (length xs)) [
      | inl within ↦
          let word : get_or (difference_of xs ys) k 0 ≡ bit_and x (bit_not w64 y) =
          get_or-zip2 bit_and xs (map (bit_not w64) ys) k 0 0 0 within (omega (arith, within, long, long_not)) ∙ ap (bit_and x) (get_or-map (bit_not w64) ys k 0 0 (omega (arith, within, long))) in
          ap (λ (w : ℕ). nat_eq (bit_at w i) 1) word
          ∙ ap (λ (b : ℕ). nat_eq b 1) (bit_at_and x (bit_not w64 y) i ∙ ap (min (bit_at x i)) (bit_at_not w64 y i (fit k) (omega arith)))
          ∙ first_alone (bit_at x i) (bit_at y i) (bit_at-lt x i) (bit_at-lt y i)
      | inr past ↦ has_bit-past (difference_of xs ys) m (omega (arith, past, length-difference_of xs ys long))
          ∙ sym (ap (λ (b : Bool). b && not (has_bit ys m)) (has_bit-past xs m (omega (arith, past))))
    ]

-- the bits that are set in the first words alone are the numbers of the first without those of the second
pub numbers_of-difference_of : (xs ys : List ℕ) → length xs ≡ 8 → length ys ≡ 8 → ((k : ℕ) → get_or ys k 0 < 2 ^ 64) → numbers_of (difference_of xs ys) ≡ without_numbers (numbers_of xs) (numbers_of ys)
numbers_of-difference_of xs ys long_xs long_ys fit =
    same_numbers 0 512 (numbers_of (difference_of xs ys)) (without_numbers (numbers_of xs) (numbers_of ys))
    (IsAscending-numbers_of (difference_of xs ys) 512 (omega (arith, long_xs, long_ys, length-difference_of xs ys (long_xs ∙ sym long_ys))))
    (IsAscendingFrom-without_numbers 0 512 (numbers_of xs) (numbers_of ys) (IsAscending-numbers_of xs 512 (omega (arith, long_xs))))
    (λ m. is_in-numbers_of m (difference_of xs ys) ∙ has_bit-difference_of xs ys m (long_xs ∙ sym long_ys) fit
    ∙ sym (is_in-without_numbers m (numbers_of xs) (numbers_of ys) ∙ ap₂ (λ (s t : Bool). s && not t) (is_in-numbers_of m xs) (is_in-numbers_of m ys)))

-- ---- the first number from a place on

bit_at-shr : (w low i : ℕ) → low ≤ i → bit_at w i ≡ bit_at (w / 2 ^ low) (i - low)
bit_at-shr w low i le =
    let place : i ≡ low + (i - low) = omega (arith, le) in
    ap (bit_at w) place ∙ sym (ap (λ (x : ℕ). x % 2) (shr-shr w low (i - low)))

pub no_bit_from : (w low : ℕ) → w / 2 ^ low ≡ 0 → (i : ℕ) → low ≤ i → i < 64 → bit_at w i ≡ 0
no_bit_from w low none i above small = bit_at-shr w low i above ∙ ap (λ (x : ℕ). bit_at x (i - low)) none ∙ bit_at-zero (i - low)

abbrev pub lowest_from : ℕ → ℕ → ℕ
lowest_from w low = low + count_trailing_zeros 64 (w / 2 ^ low)

pub lowest_from-is : (w low : ℕ) → w < 2 ^ 64 → 0 < w / 2 ^ low
    → (low ≤ lowest_from w low) × (lowest_from w low < 64) × (bit_at w (lowest_from w low) ≡ 1) × ((i : ℕ) → low ≤ i → i < lowest_from w low → bit_at w i ≡ 0)
lowest_from-is w low fits some =
    let left = w / 2 ^ low in
    let t = count_trailing_zeros 64 left in
    let lowest = bit_at-trailing_zeros w64 left some (omega (arith, fits, shr_le w low)) in
    let place : low + t - low ≡ t = omega arith in
    let set : bit_at w (low + t) ≡ 1 = bit_at-shr w low (low + t) (omega arith) ∙ ap (bit_at left) place ∙ lowest.1 in
    let small : low + t < 64 = elim (cases_lt (low + t) 64) [ inl lt ↦ lt | inr past ↦ (let none : bit_at w (low + t) ≡ 0 = bit_at_above w 64 (low + t) fits past in let both : ⊥ = omega (arith, none, set) in absurd both) ] in
    (omega arith, small, set, λ i above below. bit_at-shr w low i above ∙ lowest.2 (i - low) (omega (arith, above, below)))

no_bit_is : (b : ℕ) → b ≡ 0 → nat_eq b 1 ≡ false
no_bit_is b e = ap (λ (x : ℕ). nat_eq x 1) e

-- no number from the place on, up to the word
abbrev pub NoneBelow : List ℕ → ℕ → ℕ → Type 0
NoneBelow words from at = (n : ℕ) → from ≤ n → n < 64 * at → has_bit words n ≡ false

-- up to a bit of the word
up_to : (words : List ℕ) (from at low bit : ℕ) → NoneBelow words from at → low ≡ from - 64 * at → bit ≤ 64 → ((i : ℕ) → low ≤ i → i < bit → bit_at (get_or words at 0) i ≡ 0)
    → (n : ℕ) → from ≤ n → n < 64 * at + bit → has_bit words n ≡ false
up_to words from at low bit none start small lowest n above below =
    elim (cases_lt n (64 * at)) [
      | inl before ↦ none n above before
      | inr here ↦ (let i = n - 64 * at in
          let place : n ≡ 64 * at + i = omega (arith, here) in
          ap (has_bit words) place ∙ has_bit-at words at i (omega (arith, place, below, small)) ∙ no_bit_is _ (lowest i (omega (arith, start, above, here)) (omega (arith, place, below))))
    ]

pub NoneBelow-next : (words : List ℕ) (from at low : ℕ) → NoneBelow words from at → low ≡ from - 64 * at → ((i : ℕ) → low ≤ i → i < 64 → bit_at (get_or words at 0) i ≡ 0) → NoneBelow words from (at + 1)
NoneBelow-next words from at low none start zeroes n above below = up_to words from at low 64 none start (omega arith) zeroes n above (omega (arith, below))

pub first_from-bit : (words : List ℕ) (from at low bit : ℕ) → NoneBelow words from at → low ≡ from - 64 * at → low ≤ bit → bit < 64 → bit_at (get_or words at 0) bit ≡ 1
    → ((i : ℕ) → low ≤ i → i < bit → bit_at (get_or words at 0) i ≡ 0) → first_from from (numbers_of words) ≡ Some (64 * at + bit)
first_from-bit words from at low bit none start above small set lowest =
    first_from-some from 0 (64 * length words) (64 * at + bit) (numbers_of words) (IsAscending-numbers_of words (64 * length words) (omega arith))
    (is_in-numbers_of (64 * at + bit) words ∙ has_bit-at words at bit small ∙ eq-eqb _ _ set) (omega (arith, start, above))
    (λ n n_above n_below. is_in-numbers_of n words ∙ up_to words from at low bit none start (omega (arith, small)) lowest n n_above n_below)

pub first_from-no_bit : (words : List ℕ) (from at : ℕ) → NoneBelow words from at → length words ≤ at → first_from from (numbers_of words) ≡ None
first_from-no_bit words from at none all =
    first_from-none from (numbers_of words) (λ n above. is_in-numbers_of n words ∙ elim (cases_lt n (64 * at)) [
      | inl below ↦ none n above below
      | inr past ↦ has_bit-past words n (omega (arith, past, all))
    ])

-- ---- how many numbers

no_ones : count_ones 0 ≡ 0
no_ones = omega (arith, ones-le 0 0 (omega arith))

counted_bit : (b : ℕ) (a : ℕ) (l : List ℕ) (t : Bool) → b < 2 → t ≡ nat_eq b 1 → length (cond t (a ∷ l) l) ≡ b + length l
counted_bit zero a l t small e = ap (λ (s : Bool). length (cond s (a ∷ l) l)) e ∙ sym (zero-add (length l))
counted_bit (suc zero) a l t small e = ap (λ (s : Bool). length (cond s (a ∷ l) l)) e ∙ omega arith
counted_bit (suc (suc b)) a l t small e = absurd (omega (arith, small))

length-filter_bits : (p : ℕ → Bool) (a k w : ℕ) → w < 2 ^ k → ((i : ℕ) → i < k → p (a + i) ≡ nat_eq (bit_at w i) 1) → length (filter p (range_with_len a k)) ≡ count_ones w
length-filter_bits p a zero w small bits = let none : w ≡ 0 = omega (arith, small) in sym (ap count_ones none ∙ no_ones)
length-filter_bits p a (suc k) w small bits =
    let rest = filter p (range_with_len (a + 1) k) in
    let here : p a ≡ nat_eq (w % 2) 1 = ap p (sym (add-zero a)) ∙ bits 0 (omega arith) ∙ ap (λ (b : ℕ). nat_eq b 1) (bit_at_lowest w) in
    counted_bit (w % 2) a rest (p a) (omega arith) here
    ∙ ap (λ (n : ℕ). w % 2 + n) (length-filter_bits p (a + 1) k (w / 2) (omega (arith, small, pow-suc 2 k))
    (λ i lt. ap p (omega arith) ∙ bits (suc i) (omega (arith, lt)) ∙ ap (λ (b : ℕ). nat_eq b 1) (bit_at-suc w i)))
    ∙ sym (ones_step w)

range_with_len-add : (a m n : ℕ) → range_with_len a (m + n) ≡ range_with_len a m ++ range_with_len (a + m) n
range_with_len-add a zero n = ap₂ range_with_len (sym (add-zero a)) (zero-add n)
range_with_len-add a (suc m) n =
    let more : suc m + n ≡ suc (m + n) = omega arith in
    ap (range_with_len a) more ∙ ap (λ l. a ∷ l) (range_with_len-add (a + 1) m n ∙ ap (λ (b : ℕ). range_with_len (a + 1) m ++ range_with_len b n) (omega arith))

has_bit-later : (w : ℕ) (words : List ℕ) (m : ℕ) → has_bit (w ∷ words) (64 + m) ≡ has_bit words m
has_bit-later w words m =
    let word : (64 + m) / 64 ≡ suc (m / 64) = omega arith in
    let bit : (64 + m) % 64 ≡ m % 64 = omega arith in
    ap₂ (λ (j i : ℕ). nat_eq (bit_at (get_or (w ∷ words) j 0) i) 1) word bit

length-filter_words : (p : ℕ → Bool) (a : ℕ) (words : List ℕ) → Each1 (Fits w64) words → ((m : ℕ) → m < 64 * length words → p (a + m) ≡ has_bit words m)
    → length (filter p (range_with_len a (64 * length words))) ≡ sum_by count_ones words
length-filter_words p a [] fits bits = refl
length-filter_words p a (w ∷ words) fits bits =
    let n = 64 * length words in
    let more : 64 * suc (length words) ≡ 64 + n = omega arith in
    ap (λ (k : ℕ). length (filter p (range_with_len a k))) more
    ∙ ap (λ l. length (filter p l)) (range_with_len-add a 64 n)
    ∙ ap length (filter-append p (range_with_len a 64) (range_with_len (a + 64) n))
    ∙ length-append (filter p (range_with_len a 64)) (filter p (range_with_len (a + 64) n))
    ∙ ap₂ (λ (s t : ℕ). s + t)
    (length-filter_bits p a 64 w fits.0.fits (λ i lt. bits i (omega (arith, lt)) ∙ ap (has_bit (w ∷ words)) (omega arith) ∙ has_bit-at (w ∷ words) 0 i lt))
    (length-filter_words p (a + 64) words fits.1 (λ m lt. ap p (omega arith) ∙ bits (64 + m) (omega (arith, lt)) ∙ has_bit-later w words m))
    ∙ sym (sum_by-cons count_ones w words)

-- there are as many numbers as bits are set in the words
pub length-numbers_of : (words : List ℕ) → Each1 (Fits w64) words → length (numbers_of words) ≡ sum_by count_ones words
unfolding numbers_of
length-numbers_of words fits = length-filter_words (has_bit words) 0 words fits (λ m lt. ap (has_bit words) (zero-add m))
