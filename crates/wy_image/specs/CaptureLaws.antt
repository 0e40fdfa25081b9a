-- Captured values: a byte for the form, and what the form has after it.
use Rattle.std.proofs.Common.{◌≡◌, ℕ, ◌≤◌, ◌++◌, length, ap, lit≤, lit<}
use Rattle.wy_spelling.specs.Spelling.{AreApart, number_bytes}
use Rattle.wy_spelling.specs.NumberLaws.{numbers_apart}
use Rattle.wy_image.specs.Spelled.{IsCaptureSpelled, capture_bytes}
use Rattle.wy_image.specs.declared.file.Capture.{Capture}
use Rattle.wy_image.specs.declared.file.Capture.TheVariants as v
use Rattle.wy_spelling.specs.Kinds.{Kind}

-- one that has a spelling
pub some_capture : (x : Capture) × IsCaptureSpelled x
some_capture = (v.Slot 0, lit< tt)

-- each has a byte
pub captures_filled : (x : Capture) → 1 ≤ length (capture_bytes x)
captures_filled (v.Slot n) = lit≤ tt
captures_filled (v.Value n) = lit≤ tt

-- no bytes begin those of another
pub captures_apart : AreApart IsCaptureSpelled capture_bytes
captures_apart (v.Slot n) (v.Slot m) others more is_x is_y e =
    let behind : number_bytes n ++ others ≡ number_bytes m ++ more = cc in
    let both = numbers_apart n m others more is_x is_y behind in
    (ap (λ (x : ℕ). v.Slot x) both.0, both.1)
captures_apart (v.Slot n) y others more is_x is_y e = absurd cc
captures_apart (v.Value n) (v.Value m) others more is_x is_y e =
    let behind : number_bytes n ++ others ≡ number_bytes m ++ more = cc in
    let both = numbers_apart n m others more is_x is_y behind in
    (ap (λ (x : ℕ). v.Value x) both.0, both.1)
captures_apart (v.Value n) y others more is_x is_y e = absurd cc

-- the kind
abbrev pub capture_kind : Kind
capture_kind = record {
  Value = Capture;
  IsSpelled = IsCaptureSpelled;
  bytes_of = capture_bytes;
  some = some_capture;
  apart = captures_apart;
  filled = captures_filled;
}
