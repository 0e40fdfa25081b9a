-- Masks of bytes: from the lanes of a block to the bytes of a class.
use Rattle.std.proofs.Common.{◌≡◌, ℕ, zero, suc, ◌+◌, ◌*◌, ◌%◌, ◌^◌, Bool, false, cond, List, [], ◌∷◌, ◌++◌, length, map, replicate, take, take_all, append-nil, ◌-◌, refl, sym, ap, ap₂, ◌∙◌, arith, w8, Fits, true}
use Rattle.std.proofs.lemmas.Bool.{agree_below, agree_below_at}
use Rattle.std.proofs.lemmas.Simd.{mask_l-mod}
use Rattle.std.proofs.lemmas.List.{length-map}
use Rattle.std.specs.Simd.Lanes.{Each1, mask_l, top}
use Rattle.wy_lanes.specs.Classes.{mask_of}

tops_are : (lane : ℕ → ℕ) (p : ℕ → Bool) → agree_below (λ x. top 7 (lane x)) p 256 ≡ true → (bytes : List ℕ) → Each1 (Fits w8) bytes → map (top 7) (map lane bytes) ≡ map p bytes
tops_are lane p agree [] fits = refl
tops_are lane p agree (x ∷ xs) fits = ap₂ (λ a b. a ∷ b) (agree_below_at (λ y. top 7 (lane y)) p 256 x agree fits.0.fits) (tops_are lane p agree xs fits.1)

-- `to_bitmask` of lanes that were computed byte by byte, where the lane's top bit is the test at each of the 256 bytes
pub mask_of_lanes : (lane : ℕ → ℕ) (p : ℕ → Bool) (bytes lanes : List ℕ) → (length bytes ≡ 64) × Each1 (Fits w8) bytes → lanes ≡ map lane bytes
    → agree_below (λ x. top 7 (lane x)) p 256 ≡ true → mask_l (map (top 7) lanes) % 2 ^ 64 ≡ mask_of p bytes
mask_of_lanes lane p bytes lanes fits computed agree =
    ap (λ l. mask_l l % 2 ^ 64) (ap (map (top 7)) computed ∙ tops_are lane p agree bytes fits.1) ∙ mask_l-mod (map p bytes) 64 (omega (arith, length-map bytes p, fits.0))

mask_of-replicate : (p : ℕ → Bool) (n : ℕ) → p 0 ≡ false → mask_of p (replicate n 0) ≡ 0
mask_of-replicate p zero zero_out = refl
mask_of-replicate p (suc n) zero_out = rw (zero_out, mask_of-replicate p n zero_out)

-- zeroes after the last byte set no bit
pub mask_of-padded : (p : ℕ → Bool) (bytes : List ℕ) (n : ℕ) → p 0 ≡ false → mask_of p (bytes ++ replicate n 0) ≡ mask_of p bytes
mask_of-padded p [] n zero_out = mask_of-replicate p n zero_out
mask_of-padded p (x ∷ xs) n zero_out = ap (λ m. cond (p x) 1 0 + 2 * m) (mask_of-padded p xs n zero_out)

-- a list, as computed from itself
pub itself : (bytes : List ℕ) → bytes ≡ map (λ x. x) bytes
itself [] = refl
itself (x ∷ xs) = ap (λ r. x ∷ r) (itself xs)

pub whole_block : (bytes : List ℕ) → length bytes ≡ 64 → take 64 bytes ≡ bytes ++ replicate (64 - length bytes) 0
whole_block bytes long = take_all 64 bytes (omega (arith, long)) ∙ sym (ap (λ (n : ℕ). bytes ++ replicate (64 - n) 0) long ∙ append-nil bytes)
