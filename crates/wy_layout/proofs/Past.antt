-- One character of a name, by the text that it begins.
use Rattle.std.proofs.Common.{◌≡◌, ℕ, suc, ◌+◌, ◌-◌, ◌<◌, ◌≤◌, true, false, List, [], ◌∷◌, length, drop, refl, ap, arith, slice_index, length-drop, ◌*◌, take, take_all, nat_eq}
use Rattle.std.specs.Str.{continuation_len}
use Rattle.unicode_ident.specs.Ident.{is_xid_continue}
use Rattle.wy_layout.specs.Names.{head_char, starts}
use Rattle.wy_layout.specs.Words.{value_from}
use Rattle.wy_layout.specs.Read.{name_len, first_len}
use Rattle.wy_layout.proofs.NameRuns.{continues_whole, name_step, starts_whole, first_step, starts_empty}

pub record IsPast (z : List ℕ) : Type 0 where
  pub fits : continuation_len (slice_index z 0) + 1 ≤ length z
  pub rest : name_len 0 z + length (drop (continuation_len (slice_index z 0) + 1) z) ≡ name_len 0 (drop (continuation_len (slice_index z 0) + 1) z) + length z

pub past_is : (z : List ℕ) → (length z ≡ 0 → ⊥) → is_xid_continue (head_char z) ≡ true → IsPast z
past_is [] ne h = absurd (ne refl)
past_is (b ∷ bs) ne h =
    let w = continues_whole b bs h in
    let s = name_step b bs h in
    let l = length-drop (continuation_len b) bs in
    let d : drop (continuation_len b + 1) (b ∷ bs) ≡ drop (continuation_len b) bs = ap (λ (n : ℕ). drop n (b ∷ bs)) one in
    record { fits = omega arith; rest = rw d (omega arith) }
  where
    one : continuation_len b + 1 ≡ suc (continuation_len b)
    one = omega arith

pub stays : (z : List ℕ) → is_xid_continue (head_char z) ≡ false → name_len 0 z ≡ 0
stays [] h = refl
stays (b ∷ bs) h = rw h refl

pub value_grows : (n : ℕ) (u : List ℕ) → n ≤ value_from n u
value_grows n [] = omega arith
value_grows n (b ∷ u) = let ih = value_grows (n * 10 + (b - 48)) u in omega arith

pub full : (z : List ℕ) → nat_eq (length z) 0 ≡ false → length z ≡ 0 → ⊥
full z h e = grind arith

pub past_ends : (z : List ℕ) (n : ℕ) → n ≡ continuation_len (slice_index z 0) → IsPast z →
    (name_len 0 z + length (take (length z - (n + 1)) (drop (n + 1) z)) ≡ name_len 0 (take (length z - (n + 1)) (drop (n + 1) z)) + length z) × (length (take (length z - (n + 1)) (drop (n + 1) z)) < length z)
past_ends z n e h =
    let l = length-drop (n + 1) z in
    let t : take (length z - (n + 1)) (drop (n + 1) z) ≡ drop (n + 1) z = take_all (length z - (n + 1)) (drop (n + 1) z) (omega arith) in
    let f = h.fits in
    rw t (rw e h.rest, omega arith)

pub record IsFirst (z : List ℕ) : Type 0 where
  pub fits : continuation_len (slice_index z 0) + 1 ≤ length z
  pub rest : first_len z ≡ continuation_len (slice_index z 0) + 1 + name_len 0 (drop (continuation_len (slice_index z 0) + 1) z)

pub first_is : (z : List ℕ) → starts z ≡ true → IsFirst z
first_is z h = first_by z h
  where
    first_by : (z : List ℕ) → starts z ≡ true → IsFirst z
    first_by [] h = absurd (let t : false ≡ true = starts_empty h in cc)
    first_by (b ∷ bs) h =
        let w = starts_whole b bs h in
        let s = first_step b bs w in
        let one : continuation_len b + 1 ≡ suc (continuation_len b) = omega arith in
        let d : drop (continuation_len b + 1) (b ∷ bs) ≡ drop (continuation_len b) bs = ap (λ (n : ℕ). drop n (b ∷ bs)) one in
        record { fits = omega arith; rest = rw d (omega arith) }
