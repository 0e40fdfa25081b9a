-- References: a byte for the form, and what the form has after it.
use Rattle.std.proofs.Common.{◌≡◌, ℕ, ◌≤◌, ◌++◌, length, refl, ap, lit≤}
use Rattle.wy_spelling.specs.Spelling.{AreApart, number_bytes}
use Rattle.wy_spelling.specs.NumberLaws.{numbers_apart}
use Rattle.wy_image.specs.Spelled.{IsReferenceSpelled, reference_bytes}
use Rattle.wy_image.specs.declared.typing.Reference.{Reference}
use Rattle.wy_image.specs.declared.typing.Reference.TheVariants as v
use Rattle.wy_spelling.specs.Kinds.{Kind}

-- one that has a spelling
pub some_reference : (x : Reference) × IsReferenceSpelled x
some_reference = (v.Int, tt)

-- each has a byte
pub references_filled : (x : Reference) → 1 ≤ length (reference_bytes x)
references_filled v.Int = lit≤ tt
references_filled v.Truth = lit≤ tt
references_filled v.Bytes = lit≤ tt
references_filled v.Unit = lit≤ tt
references_filled (v.Listed n) = lit≤ tt
references_filled (v.Literal n) = lit≤ tt
references_filled (v.Grant n) = lit≤ tt
references_filled (v.Instance n) = lit≤ tt

-- no bytes begin those of another
pub references_apart : AreApart IsReferenceSpelled reference_bytes
references_apart v.Int v.Int others more is_x is_y e = (refl, cc)
references_apart v.Int y others more is_x is_y e = absurd cc
references_apart v.Truth v.Truth others more is_x is_y e = (refl, cc)
references_apart v.Truth y others more is_x is_y e = absurd cc
references_apart v.Bytes v.Bytes others more is_x is_y e = (refl, cc)
references_apart v.Bytes y others more is_x is_y e = absurd cc
references_apart v.Unit v.Unit others more is_x is_y e = (refl, cc)
references_apart v.Unit y others more is_x is_y e = absurd cc
references_apart (v.Listed n) (v.Listed m) others more is_x is_y e =
    let behind : number_bytes n ++ others ≡ number_bytes m ++ more = cc in
    let both = numbers_apart n m others more is_x is_y behind in
    (ap (λ (x : ℕ). v.Listed x) both.0, both.1)
references_apart (v.Listed n) y others more is_x is_y e = absurd cc
references_apart (v.Literal n) (v.Literal m) others more is_x is_y e =
    let behind : number_bytes n ++ others ≡ number_bytes m ++ more = cc in
    let both = numbers_apart n m others more is_x is_y behind in
    (ap (λ (x : ℕ). v.Literal x) both.0, both.1)
references_apart (v.Literal n) y others more is_x is_y e = absurd cc
references_apart (v.Grant n) (v.Grant m) others more is_x is_y e =
    let behind : number_bytes n ++ others ≡ number_bytes m ++ more = cc in
    let both = numbers_apart n m others more is_x is_y behind in
    (ap (λ (x : ℕ). v.Grant x) both.0, both.1)
references_apart (v.Grant n) y others more is_x is_y e = absurd cc
references_apart (v.Instance n) (v.Instance m) others more is_x is_y e =
    let behind : number_bytes n ++ others ≡ number_bytes m ++ more = cc in
    let both = numbers_apart n m others more is_x is_y behind in
    (ap (λ (x : ℕ). v.Instance x) both.0, both.1)
references_apart (v.Instance n) y others more is_x is_y e = absurd cc

-- the kind
abbrev pub reference_kind : Kind
reference_kind = record {
  Value = Reference;
  IsSpelled = IsReferenceSpelled;
  bytes_of = reference_bytes;
  some = some_reference;
  apart = references_apart;
  filled = references_filled;
}
