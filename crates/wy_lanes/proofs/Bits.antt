-- What the definitions on words and on classes say of single bits.
use Rattle.std.proofs.Common.{◌≡◌, ℕ, zero, suc, ◌+◌, ◌*◌, ◌<◌, ◌≤◌, ◌^◌, ◌/◌, ◌%◌, max, Bool, true, false, cond, ◌||◌, nat_eq, List, [], ◌∷◌, length, map, get_or, get_or-set_other, get_or-set_same, ext_get_or, set, bit_or, w64, refl, sym, ap, ap₂, ◌∙◌, inl, inr, arith}
use Rattle.std.proofs.Math.ListN.{get_or-eq_default}
use Rattle.std.proofs.lemmas.Bool.{cases_eq, cases_lt, eq-eqb, eqb-true, false≢true, ne_eqb}
use Rattle.std.proofs.lemmas.List.{get_or-map, length-map}
use Rattle.std.proofs.lemmas.Nat.Bits.{bit_at_or, bit_at-lt, bit_at_above, bit_at_set_other, bit_at_set_same, same_from_bits, same_from_bits_below}
use Rattle.std.proofs.lemmas.Simd.{bit_mask_l}
use Rattle.std.specs.Int.{bit_at}
use Rattle.wy_lanes.specs.Classes.{mask_of}
use Rattle.wy_lanes.specs.Words.{AllInside, IsInside, has_bit, union_of}

max_is_one : (u v : ℕ) → u < 2 → v < 2 → nat_eq (max u v) 1 ≡ (nat_eq u 1 || nat_eq v 1)
max_is_one zero zero small_u small_v = refl
max_is_one zero (suc zero) small_u small_v = refl
max_is_one (suc zero) zero small_u small_v = refl
max_is_one (suc zero) (suc zero) small_u small_v = refl
max_is_one u (suc (suc v)) small_u small_v = absurd (omega (arith, small_v))
max_is_one (suc (suc u)) v small_u small_v = absurd (omega (arith, small_u))

get_or-union_of : (xs ys : List ℕ) (k : ℕ) → length xs ≡ length ys → get_or (union_of xs ys) k 0 ≡ bit_or (get_or xs k 0) (get_or ys k 0)
get_or-union_of [] [] k long = refl
get_or-union_of [] (y ∷ ys) k long = absurd (omega (arith, long))
get_or-union_of (x ∷ xs) [] k long = absurd (omega (arith, long))
get_or-union_of (x ∷ xs) (y ∷ ys) zero long = refl
get_or-union_of (x ∷ xs) (y ∷ ys) (suc k) long = get_or-union_of xs ys k (omega (arith, long))

-- a bit of a union is set exactly where it is set in one of both
pub has_bit-union_of : (xs ys : List ℕ) (n : ℕ) → length xs ≡ length ys → has_bit (union_of xs ys) n ≡ (has_bit xs n || has_bit ys n)
has_bit-union_of xs ys n long =
    let x = get_or xs (n / 64) 0 in
    let y = get_or ys (n / 64) 0 in
    let i = n % 64 in
    ap (λ (w : ℕ). nat_eq (bit_at w i) 1) (get_or-union_of xs ys (n / 64) long)
    ∙ ap (λ (b : ℕ). nat_eq b 1) (bit_at_or x y i)
    ∙ max_is_one (bit_at x i) (bit_at y i) (bit_at-lt x i) (bit_at-lt y i)

-- the bit of a word by the word's place and the bit's
pub has_bit-at : (xs : List ℕ) (k i : ℕ) → i < 64 → has_bit xs (64 * k + i) ≡ nat_eq (bit_at (get_or xs k 0) i) 1
has_bit-at xs k i small =
    let word : (64 * k + i) / 64 ≡ k = omega arith in
    let bit : (64 * k + i) % 64 ≡ i = omega arith in
    ap₂ (λ (a b : ℕ). nat_eq (bit_at (get_or xs a 0) b) 1) word bit

set_in_both : (m u v : ℕ) → m ≡ max u v → m ≡ v → v < 2 → u ≡ 1 → v ≡ 1
set_in_both m u v larger same small set = omega arith

same_as_second : (m u v : ℕ) → m ≡ max u v → u < 2 → v < 2 → (u ≡ 1 → v ≡ 1) → m ≡ v
same_as_second m zero v larger small_u small_v both = omega (arith, larger)
same_as_second m (suc zero) v larger small_u small_v both = omega (arith, larger, both refl)
same_as_second m (suc (suc u)) v larger small_u small_v both = absurd (omega (arith, small_u))

IsInside-get_or : (xs ys : List ℕ) (k : ℕ) → length xs ≡ length ys → AllInside xs ys → IsInside (get_or xs k 0) (get_or ys k 0)
IsInside-get_or [] [] k long all = refl
IsInside-get_or [] (y ∷ ys) k long all = absurd (omega (arith, long))
IsInside-get_or (x ∷ xs) [] k long all = absurd (omega (arith, long))
IsInside-get_or (x ∷ xs) (y ∷ ys) zero long all = all.0
IsInside-get_or (x ∷ xs) (y ∷ ys) (suc k) long all = IsInside-get_or xs ys k (omega (arith, long)) all.1

-- where no word has a bit outside, each bit that is set is set in the bound
pub has_bit-inside : (xs ys : List ℕ) → length xs ≡ length ys → AllInside xs ys → (n : ℕ) → has_bit xs n ≡ true → has_bit ys n ≡ true
has_bit-inside xs ys long all n set =
    let x = get_or xs (n / 64) 0 in
    let y = get_or ys (n / 64) 0 in
    let i = n % 64 in
    let inside : bit_or x y ≡ y = IsInside-get_or xs ys (n / 64) long all in
    eq-eqb _ _ (set_in_both (bit_at (bit_or x y) i) (bit_at x i) (bit_at y i) (bit_at_or x y i) (ap (λ (w : ℕ). bit_at w i) inside) (bit_at-lt y i) (eqb-true _ _ set))

IsInside-from_bits : (x y : ℕ) → x < 2 ^ 64 → ((i : ℕ) → i < 64 → bit_at x i ≡ 1 → bit_at y i ≡ 1) → IsInside x y
IsInside-from_bits x y fits bits =
    same_from_bits (bit_or x y) y (λ i. same_as_second (bit_at (bit_or x y) i) (bit_at x i) (bit_at y i) (bit_at_or x y i) (bit_at-lt x i) (bit_at-lt y i)
    (elim (cases_lt i 64) [
      | inl below ↦ bits i below
      | inr above ↦ λ set. (let none : bit_at x i ≡ 0 = bit_at_above x 64 i fits above in let both : ⊥ = omega (arith, none, set) in absurd both)
    ]))

AllInside-from_words : (xs ys : List ℕ) → ((k : ℕ) → k < length xs → IsInside (get_or xs k 0) (get_or ys k 0)) → AllInside xs ys
AllInside-from_words [] ys words = tt
AllInside-from_words (x ∷ xs) [] words = tt
AllInside-from_words (x ∷ xs) (y ∷ ys) words = (words 0 (omega arith), AllInside-from_words xs ys (λ k lt. words (suc k) (omega (arith, lt))))

-- where each bit that is set is set in the bound, no word has a bit outside
pub AllInside-from_bits : (xs ys : List ℕ) → ((k : ℕ) → get_or xs k 0 < 2 ^ 64) → ((n : ℕ) → n < 64 * length xs → has_bit xs n ≡ true → has_bit ys n ≡ true) → AllInside xs ys
AllInside-from_bits xs ys fit bits =
    AllInside-from_words xs ys (λ k lt. IsInside-from_bits (get_or xs k 0) (get_or ys k 0) (fit k)
    (λ i small set. eqb-true _ _ (sym (has_bit-at ys k i small) ∙ bits (64 * k + i) (omega (arith, lt, small)) (has_bit-at xs k i small ∙ eq-eqb _ _ set))))

same_bit : (u v : ℕ) → u < 2 → v < 2 → nat_eq u 1 ≡ nat_eq v 1 → u ≡ v
same_bit zero zero small_u small_v same = refl
same_bit zero (suc zero) small_u small_v same = absurd (false≢true same)
same_bit (suc zero) zero small_u small_v same = absurd (false≢true (sym same))
same_bit (suc zero) (suc zero) small_u small_v same = refl
same_bit u (suc (suc v)) small_u small_v same = absurd (omega (arith, small_v))
same_bit (suc (suc u)) v small_u small_v same = absurd (omega (arith, small_u))

-- lists of words that have the same bits are the same
pub words_from_bits : (xs ys : List ℕ) → length xs ≡ length ys → ((k : ℕ) → get_or xs k 0 < 2 ^ 64) → ((k : ℕ) → get_or ys k 0 < 2 ^ 64)
    → ((n : ℕ) → n < 64 * length xs → has_bit xs n ≡ has_bit ys n) → xs ≡ ys
words_from_bits xs ys long fit_xs fit_ys bits =
    ext_get_or 0 xs ys long (λ k lt. same_from_bits_below 64 (get_or xs k 0) (get_or ys k 0) (fit_xs k) (fit_ys k)
    (λ i small. same_bit _ _ (bit_at-lt (get_or xs k 0) i) (bit_at-lt (get_or ys k 0) i)
    (sym (has_bit-at xs k i small) ∙ bits (64 * k + i) (omega (arith, lt, small)) ∙ has_bit-at ys k i small)))

-- where `1 << n % 64` is put into word n / 64, bit n is set and no other changes
pub has_bit-set : (xs : List ℕ) (n m : ℕ) → n / 64 < length xs
    → has_bit (set xs (n / 64) (bit_or (get_or xs (n / 64) 0) (1 * 2 ^ (n % 64) % 2 ^ 64))) m ≡ (nat_eq m n || has_bit xs m)
has_bit-set xs n m within =
    let w = get_or xs (n / 64) 0 in
    let v = bit_or w (1 * 2 ^ (n % 64) % 2 ^ 64) in
    let small : n % 64 < 64 = omega arith in
    elim (cases_eq (m / 64) (n / 64)) [
      | inl same ↦
          let here : get_or (set xs (n / 64) v) (m / 64) 0 ≡ v = ap (λ (j : ℕ). get_or (set xs (n / 64) v) j 0) same ∙ get_or-set_same xs (n / 64) v 0 within in
          let word = ap (λ (y : ℕ). nat_eq (bit_at y (m % 64)) 1) here in
          elim (cases_eq (m % 64) (n % 64)) [
            | inl equal ↦ word ∙ ap (λ (j : ℕ). nat_eq (bit_at v j) 1) equal ∙ eq-eqb _ _ (bit_at_set_same w64 w (n % 64) small)
                ∙ sym (ap (λ (b : Bool). b || has_bit xs m) (eq-eqb m n (omega (arith, same, equal))))
            | inr other ↦ word ∙ ap (λ (b : ℕ). nat_eq b 1) (bit_at_set_other w64 w (n % 64) small (m % 64) other)
                ∙ sym (ap (λ (b : Bool). b || has_bit xs m) (ne_eqb m n (λ e. other (ap (λ (x : ℕ). x % 64) e))) ∙ ap (λ (j : ℕ). nat_eq (bit_at (get_or xs j 0) (m % 64)) 1) same)
          ]
      | inr other ↦ ap (λ (y : ℕ). nat_eq (bit_at y (m % 64)) 1) (get_or-set_other xs (n / 64) (m / 64) v 0 other)
          ∙ sym (ap (λ (b : Bool). b || has_bit xs m) (ne_eqb m n (λ e. other (ap (λ (x : ℕ). x / 64) e))))
    ]

-- a bit of a mask says whether the byte in its place is of the class
pub bit_at-mask_of : (p : ℕ → Bool) (bytes : List ℕ) (i : ℕ) → i < length bytes → bit_at (mask_of p bytes) i ≡ cond (p (get_or bytes i 0)) 1 0
bit_at-mask_of p bytes i within = bit_mask_l (map p bytes) i ∙ ap (λ (b : Bool). cond b 1 0) (get_or-map p bytes i 0 false within)

-- no bit past the last byte is set
pub bit_at-mask_of_past : (p : ℕ → Bool) (bytes : List ℕ) (i : ℕ) → length bytes ≤ i → bit_at (mask_of p bytes) i ≡ 0
bit_at-mask_of_past p bytes i past =
    bit_mask_l (map p bytes) i ∙ ap (λ (b : Bool). cond b 1 0) (get_or-eq_default (map p bytes) false {n = i} (omega (arith, length-map bytes p)))
