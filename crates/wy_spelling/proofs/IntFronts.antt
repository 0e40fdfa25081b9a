-- Too few bytes for an Int.
use Rattle.std.proofs.Common.{◌≡◌, ℕ, ℤ, pos, zero, suc, ◌-◌, ◌<◌, List, [], ◌∷◌, ◌++◌, length, get_or}
use Rattle.std.proofs.Common.{refl, sym, ap, ◌∙◌, arith}
use Rattle.std.proofs.Math.ListN.{replicate}
use Rattle.std.specs.Int.{w64, from_le_bytes}
use Rattle.std.proofs.lemmas.List.{append-nil, length-append, length-replicate}
use Rattle.std.proofs.lemmas.Nat.{le_bytes_8}
use Rattle.wy_spelling.specs.Plain.{IsIntSpelled, int_bytes}
use Rattle.wy_spelling.specs.Spelling.{CanGoOn, IsStuck}
use Rattle.wy_spelling.proofs.Numbers.{filled_fits}

-- eight bytes of which the last is zero are some Int's
eight_bytes : (bytes : List ℕ) → length bytes ≡ 8 → get_or bytes 7 0 ≡ 0 → ((i : ℕ) → get_or bytes i 0 < 256)
    → (n : ℤ) × IsIntSpelled n × (int_bytes n ≡ bytes)
eight_bytes bytes eight last fits =
    let number : ℕ = from_le_bytes w64 bytes in (
      pos number,
      record { sfits = omega (arith, last, fits 0, fits 1, fits 2, fits 3, fits 4, fits 5, fits 6) },
      le_bytes_8 bytes number eight fits refl,
    )

zero_at : (count i : ℕ) → ◌≡◌ {A = ℕ} (get_or (replicate count 0) i 0) 0
zero_at zero i = refl
zero_at (suc count) zero = refl
zero_at (suc count) (suc i) = zero_at count i

zero_behind : (bytes : List ℕ) (count i : ℕ) → length bytes < suc i → get_or (bytes ++ replicate count 0) i 0 ≡ 0
zero_behind [] count i less = zero_at count i
zero_behind (b ∷ bytes) count zero less = absurd (omega arith)
zero_behind (b ∷ bytes) count (suc i) less = zero_behind bytes count i (omega arith)

few_begin : (bytes : List ℕ) → length bytes < 8 → ((i : ℕ) → get_or bytes i 0 < 256)
    → CanGoOn IsIntSpelled int_bytes bytes
few_begin bytes few fits =
    let more : ℕ = 8 - length bytes in
    let filled : List ℕ = bytes ++ replicate more 0 in
    let count : more ≡ suc (7 - length bytes) = omega arith in
    let eight : length filled ≡ 8 = simp (length-append, length-replicate) (omega arith) in
    let n = eight_bytes filled eight (zero_behind bytes more 7 few) (λ i. filled_fits bytes more i fits) in
    (n.0, 0, replicate (7 - length bytes) 0, n.1, n.2 ∙ ap (λ (k : ℕ). bytes ++ replicate k 0) count)

pub int_ends_early : (bytes : List ℕ) → length bytes < 8 → ((i : ℕ) → get_or bytes i 0 < 256)
    → IsStuck IsIntSpelled int_bytes bytes 0
int_ends_early bytes few fits = record {
  front = bytes;
  rest = [];
  split = sym (append-nil bytes);
  rest_is = refl;
  begins = few_begin bytes few fits;
  ends = λ next behind at x others is e. absurd cc;
}
