-- Ints: eight bytes.
use Rattle.std.proofs.Common.{◌≡◌, ℤ, pos, negsuc, ◌≤◌, ◌<◌, ◌^◌, length, sym, ap, ◌∙◌, arith, lit≤, lit<}
use Rattle.std.specs.Int.{w64, cast_unsigned, cast_signed, from_le_bytes, to_le_bytes}
use Rattle.std.proofs.lemmas.Int.{to_z-of_z}
use Rattle.std.proofs.lemmas.Nat.{from_le_bytes-to_le_bytes_8}
use Rattle.wy_spelling.specs.Spelling.{AreApart}
use Rattle.wy_spelling.specs.Plain.{IsIntSpelled, int_bytes}

pub some_int : (n : ℤ) × IsIntSpelled n
some_int = (pos 0, record { sfits = lit< tt })

pub ints_filled : (n : ℤ) → 1 ≤ length (int_bytes n)
ints_filled n = lit≤ tt

small : (n : ℤ) → IsIntSpelled n → cast_unsigned w64 n < 2 ^ 64
small (pos n) f = omega (arith, f.sfits)
small (negsuc n) f = omega (arith, f.sfits)

pub ints_apart : AreApart IsIntSpelled int_bytes
ints_apart m n others more is_m is_n e =
    let first = cast_unsigned w64 m in
    let second = cast_unsigned w64 n in
    let fronts : to_le_bytes w64 first ≡ to_le_bytes w64 second = cc in
    let same : first ≡ second =
    sym (from_le_bytes-to_le_bytes_8 first (small m is_m))
    ∙ ap (from_le_bytes w64) fronts
    ∙ from_le_bytes-to_le_bytes_8 second (small n is_n) in
    (sym (to_z-of_z w64 m is_m) ∙ ap (cast_signed w64) same ∙ to_z-of_z w64 n is_n, cc)
