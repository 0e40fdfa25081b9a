-- How far bytes of a class go, told from the bits of a mask, and over pieces of a list.
use Rattle.std.proofs.Common.{◌≡◌, ℕ, zero, suc, ◌+◌, ◌<◌, ◌≤◌, List, [], ◌∷◌, inl, inr, Bool, true, false, cond, not, length, get_or, min, ◌^◌, w64, ◌++◌, ◌-◌, length-append, refl, sym, ap, ◌∙◌, arith, zero-add}
use Rattle.std.specs.Int.{bit_at, bit_not}
use Rattle.std.proofs.lemmas.Nat.Bits.{bit_at-lt, bit_at_not}
use Rattle.std.proofs.lemmas.Bool.{cases_lt}
use Rattle.wy_lanes.specs.Classes.{mask_of}
use Rattle.wy_lanes.specs.Runs.{front_len}
use Rattle.wy_lanes.proofs.Bits.{bit_at-mask_of, bit_at-mask_of_past}

front-yes : (p : ℕ → Bool) (b : ℕ) (bs : List ℕ) → p b ≡ true → front_len p (b ∷ bs) ≡ suc (front_len p bs)
front-yes p b bs e = ap (λ (t : Bool). cond t (suc (front_len p bs)) 0) e

front-no : (p : ℕ → Bool) (b : ℕ) (bs : List ℕ) → p b ≡ false → front_len p (b ∷ bs) ≡ 0
front-no p b bs e = ap (λ (t : Bool). cond t (suc (front_len p bs)) 0) e

-- the first byte that is not such
pub front_at : (p : ℕ → Bool) (bs : List ℕ) (n : ℕ) → n < length bs → ((i : ℕ) → i < n → p (get_or bs i 0) ≡ true) → p (get_or bs n 0) ≡ false → front_len p bs ≡ n
front_at p [] n lt before here = absurd (omega (arith, lt))
front_at p (b ∷ bs) zero lt before here = front-no p b bs here
front_at p (b ∷ bs) (suc n) lt before here =
    front-yes p b bs (before 0 (omega arith)) ∙ ap suc (front_at p bs n (omega (arith, lt)) (λ i l. before (suc i) (omega (arith, l))) here)

-- all are such
pub front_all : (p : ℕ → Bool) (bs : List ℕ) → ((i : ℕ) → i < length bs → p (get_or bs i 0) ≡ true) → front_len p bs ≡ length bs
front_all p [] all = refl
front_all p (b ∷ bs) all = front-yes p b bs (all 0 (omega arith)) ∙ ap suc (front_all p bs (λ i l. all (suc i) (omega (arith, l))))

pub front_within : (p : ℕ → Bool) (bs : List ℕ) → front_len p bs ≤ length bs
front_within p [] = omega arith
front_within p (b ∷ bs) =
    let rest = front_within p bs in
    elim (p b) as (λ t. cond t (suc (front_len p bs)) 0 ≤ suc (length bs)) [ true ↦ omega (arith, rest) | false ↦ omega arith ]

-- where all of a first piece are such, the rest goes on
pub front_more : (p : ℕ → Bool) (xs ys : List ℕ) → front_len p xs ≡ length xs → front_len p (xs ++ ys) ≡ length xs + front_len p ys
front_more p [] ys all = sym (zero-add (front_len p ys))
front_more p (x ∷ xs) ys all =
    elim (p x) as (λ t. p x ≡ t → cond t (suc (front_len p (xs ++ ys))) 0 ≡ suc (length xs) + front_len p ys) [
      | true ↦ λ e. (let s : suc (front_len p xs) ≡ suc (length xs) = sym (front-yes p x xs e) ∙ all in
          let rest = front_more p xs ys (omega (arith, s)) in omega (arith, rest))
      | false ↦ λ e. (let z : zero ≡ suc (length xs) = sym (front-no p x xs e) ∙ all in absurd (omega (arith, z)))
    ] refl

-- where they stop in it, the rest says nothing
pub front_stops : (p : ℕ → Bool) (xs ys : List ℕ) → front_len p xs < length xs → front_len p (xs ++ ys) ≡ front_len p xs
front_stops p [] ys lt = absurd (omega (arith, lt))
front_stops p (x ∷ xs) ys lt =
    elim (p x) as (λ t. p x ≡ t → cond t (suc (front_len p (xs ++ ys))) 0 ≡ cond t (suc (front_len p xs)) 0) [
      | true ↦ λ e. ap suc (front_stops p xs ys (let s : front_len p (x ∷ xs) ≡ suc (front_len p xs) = front-yes p x xs e in omega (arith, s, lt)))
      | false ↦ λ e. refl
    ] refl

------------------------------------------------------------
-- Bits

bit_of : Bool → ℕ
bit_of t = cond t 1 0

bit_yes : (t : Bool) → bit_of t ≡ 1 → t ≡ true
unfolding bit_of
bit_yes true e = refl
bit_yes false e = let z : zero ≡ suc zero = e in absurd (omega (arith, z))

bit_no : (t : Bool) → bit_of t ≡ 0 → t ≡ false
unfolding bit_of
bit_no true e = let z : suc zero ≡ zero = e in absurd (omega (arith, z))
bit_no false e = refl

is_set : (p : ℕ → Bool) (bs : List ℕ) (i : ℕ) → i < length bs → bit_at (mask_of p bs) i ≡ 1 → p (get_or bs i 0) ≡ true
unfolding bit_of
is_set p bs i lt e = bit_yes (p (get_or bs i 0)) (sym (bit_at-mask_of p bs i lt) ∙ e)

is_clear : (p : ℕ → Bool) (bs : List ℕ) (i : ℕ) → i < length bs → bit_at (mask_of p bs) i ≡ 0 → p (get_or bs i 0) ≡ false
unfolding bit_of
is_clear p bs i lt e = bit_no (p (get_or bs i 0)) (sym (bit_at-mask_of p bs i lt) ∙ e)

-- a set bit is that of a byte
set_within : (p : ℕ → Bool) (bs : List ℕ) (i : ℕ) → bit_at (mask_of p bs) i ≡ 1 → i < length bs
set_within p bs i e =
    elim (cases_lt i (length bs)) [
      | inl lt ↦ lt
      | inr past ↦ (let z : zero ≡ suc zero = sym (bit_at-mask_of_past p bs i past) ∙ e in absurd (omega (arith, z)))
    ]

-- the lowest set bit is where a gap ends
pub gap_at : (p : ℕ → Bool) (bs : List ℕ) (n : ℕ) → bit_at (mask_of p bs) n ≡ 1 → ((i : ℕ) → i < n → bit_at (mask_of p bs) i ≡ 0) → front_len (λ b. not (p b)) bs ≡ n
gap_at p bs n set clear =
    let lt = set_within p bs n set in
    front_at (λ b. not (p b)) bs n lt (λ i l. ap not (is_clear p bs i (omega (arith, l, lt)) (clear i l))) (ap not (is_set p bs n lt set))

pub gap_within : (p : ℕ → Bool) (bs : List ℕ) (n : ℕ) → bit_at (mask_of p bs) n ≡ 1 → n ≤ length bs
gap_within p bs n set = let lt = set_within p bs n set in omega (arith, lt)

-- no bit is set where the gap is all
pub gap_all : (p : ℕ → Bool) (bs : List ℕ) → length bs ≤ 64 → ((i : ℕ) → i < 64 → bit_at (mask_of p bs) i ≡ 0) → front_len (λ b. not (p b)) bs ≡ length bs
gap_all p bs few clear = front_all (λ b. not (p b)) bs (λ i l. ap not (is_clear p bs i l (clear i (omega (arith, l, few)))))

-- the lowest clear bit is where a run ends, or it is past the last byte
pub run_at : (p : ℕ → Bool) (bs : List ℕ) (n : ℕ) → n < length bs → bit_at (mask_of p bs) n ≡ 0 → ((i : ℕ) → i < n → bit_at (mask_of p bs) i ≡ 1) → front_len p bs ≡ n
run_at p bs n lt clear set = front_at p bs n lt (λ i l. is_set p bs i (omega (arith, l, lt)) (set i l)) (is_clear p bs n lt clear)

pub run_all : (p : ℕ → Bool) (bs : List ℕ) → ((i : ℕ) → i < length bs → bit_at (mask_of p bs) i ≡ 1) → front_len p bs ≡ length bs
run_all p bs set = front_all p bs (λ i l. is_set p bs i l (set i l))

------------------------------------------------------------
-- Piece by piece

abbrev IsLeft : (ℕ → Bool) → List ℕ → List ℕ → Type 0
IsLeft p bytes rest = (length rest ≤ length bytes) × (front_len p bytes ≡ (length bytes - length rest) + front_len p rest)

-- a piece has the end
pub front_found : (p : ℕ → Bool) (bytes rest block more : List ℕ) (found : ℕ) → IsLeft p bytes rest → rest ≡ block ++ more → found ≡ front_len p block → found < length block
    → length bytes - length rest + found ≡ front_len p bytes
front_found p bytes rest block more found left split is lt =
    ap (λ (n : ℕ). length bytes - length rest + n) (is ∙ sym (front_stops p block more (let l : found < length block = lt in omega (arith, l, is))) ∙ sym (ap (front_len p) split)) ∙ sym left.1

-- a piece has no end
pub front_next : (p : ℕ → Bool) (bytes rest block more : List ℕ) (found : ℕ) → IsLeft p bytes rest → rest ≡ block ++ more → found ≡ front_len p block → found ≤ length block → (found < length block → ⊥)
    → IsLeft p bytes more
front_next p bytes rest block more found left split is within not_less =
    let full : front_len p block ≡ length block = omega (arith, is, within, not_less) in
    let lengths : length rest ≡ length block + length more = ap length split ∙ length-append block more in
    let rest_is : front_len p rest ≡ length block + front_len p more = ap (front_len p) split ∙ front_more p block more full in
    let bytes_is = left.1 in
    (omega (arith, lengths, left.0), omega (arith, bytes_is, rest_is, lengths, left.0))

------------------------------------------------------------
-- Bits that are not set

clear_bit : (w i : ℕ) → w < 2 ^ 64 → i < 64 → bit_at (bit_not w64 w) i ≡ 1 → bit_at w i ≡ 0
clear_bit w i fits small e = let s : bit_at (bit_not w64 w) i ≡ 1 - bit_at w i = bit_at_not w64 w i fits small in omega (arith, e, s)

set_bit : (w i : ℕ) → w < 2 ^ 64 → i < 64 → bit_at (bit_not w64 w) i ≡ 0 → bit_at w i ≡ 1
set_bit w i fits small e =
    let s : bit_at (bit_not w64 w) i ≡ 1 - bit_at w i = bit_at_not w64 w i fits small in
    let l : bit_at w i < 2 = bit_at-lt w i in
    omega (arith, e, s, l)

-- the lowest bit that is not set is where a run ends, or past the last byte
pub run_found : (p : ℕ → Bool) (bs : List ℕ) (w n : ℕ) → w ≡ mask_of p bs → w < 2 ^ 64 → n < 64 → bit_at (bit_not w64 w) n ≡ 1 → ((i : ℕ) → i < n → bit_at (bit_not w64 w) i ≡ 0)
    → min (length bs) n ≡ front_len p bs
run_found p bs w n is fits small clear set =
    let bit : (i : ℕ) → i < n → bit_at (mask_of p bs) i ≡ 1 = λ i l. ap (λ (v : ℕ). bit_at v i) (sym is) ∙ set_bit w i fits (omega (arith, l, small)) (set i l) in
    elim (cases_lt n (length bs)) [
      | inl lt ↦ (let e : front_len p bs ≡ n = run_at p bs n lt (ap (λ (v : ℕ). bit_at v n) (sym is) ∙ clear_bit w n fits small clear) bit in omega (arith, e, lt))
      | inr past ↦ (let e : front_len p bs ≡ length bs = run_all p bs (λ i l. bit i (omega (arith, l, past))) in omega (arith, e, past))
    ]

-- where all bits are set the run is all
pub run_whole : (p : ℕ → Bool) (bs : List ℕ) (w : ℕ) → w ≡ mask_of p bs → w < 2 ^ 64 → length bs ≤ 64 → ((i : ℕ) → i < 64 → bit_at (bit_not w64 w) i ≡ 0) → length bs ≡ front_len p bs
run_whole p bs w is fits few set =
    sym (run_all p bs (λ i l. ap (λ (v : ℕ). bit_at v i) (sym is) ∙ set_bit w i fits (omega (arith, l, few)) (set i (omega (arith, l, few)))))
