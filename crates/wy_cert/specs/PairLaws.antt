-- Pairs of types: two numbers.
use Rattle.std.proofs.Common.{ℕ, ◌≤◌, length, refl, lit≤}
use Rattle.wy_spelling.specs.NumberLaws.{numbers_apart, some_number}
use Rattle.wy_spelling.specs.PairLaws.{pairs_apart as both_apart}
use Rattle.wy_spelling.specs.ShapeLaws.{IsShape, apart_in_shape, some_in_shape}
use Rattle.wy_spelling.specs.Spelling.{AreApart, AreBoth, IsNumber, both_bytes, number_bytes}
use Rattle.wy_cert.specs.Spelled.{IsPairSpelled, pair_bytes}
use Rattle.wy_cert.specs.declared.certificate.CertPair.{CertPair}

abbrev pub pair_of : ℕ × ℕ → CertPair
pair_of p = record { left = p.0; right = p.1 }

abbrev pub pair_parts : CertPair → ℕ × ℕ
pair_parts q = (q.left, q.right)

pub pair_shape : IsShape (AreBoth IsNumber IsNumber) (both_bytes number_bytes number_bytes) IsPairSpelled pair_bytes pair_of pair_parts
pair_shape = record { back = λ q. refl; whole_spelled = λ p is. is; whole_bytes = λ p. refl; parts_spelled = λ q is. is; parts_bytes = λ q. refl }

pub pair_parts_apart : AreApart (AreBoth IsNumber IsNumber) (both_bytes number_bytes number_bytes)
pair_parts_apart = both_apart IsNumber number_bytes IsNumber number_bytes numbers_apart numbers_apart

pub pairs_apart : AreApart IsPairSpelled pair_bytes
pairs_apart = apart_in_shape (AreBoth IsNumber IsNumber) (both_bytes number_bytes number_bytes) IsPairSpelled pair_bytes pair_of pair_parts pair_shape pair_parts_apart

pub pairs_filled : (q : CertPair) → 1 ≤ length (pair_bytes q)
pairs_filled q = lit≤ tt

pub some_pair : (q : CertPair) × IsPairSpelled q
some_pair = some_in_shape (AreBoth IsNumber IsNumber) (both_bytes number_bytes number_bytes) IsPairSpelled pair_bytes pair_of pair_parts pair_shape ((some_number.0, some_number.0), (some_number.1, some_number.1))
