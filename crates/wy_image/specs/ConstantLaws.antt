-- Constants: a byte for the form, and what the form has after it.
use Rattle.std.proofs.Common.{◌≡◌, ℕ, ℤ, Bool, ◌≤◌, List, ◌++◌, length, refl, ap, arith, lit≤}
use Rattle.wy_spelling.specs.Spelling.{AreApart, number_bytes}
use Rattle.wy_spelling.specs.IntLaws.{ints_apart}
use Rattle.wy_spelling.specs.NumberLaws.{numbers_apart}
use Rattle.wy_spelling.specs.Plain.{int_bytes}
use Rattle.wy_spelling.specs.Plain.{text_bytes}
use Rattle.wy_spelling.specs.Plain.{truth_bytes}
use Rattle.wy_spelling.specs.TextLaws.{texts_apart}
use Rattle.wy_spelling.specs.TruthLaws.{truths_apart}
use Rattle.wy_image.specs.Spelled.{IsConstantSpelled, constant_bytes}
use Rattle.wy_image.specs.declared.file.Constant.{Constant}
use Rattle.wy_image.specs.declared.file.Constant.TheVariants as v
use Rattle.wy_spelling.specs.Kinds.{Kind}

-- one that has a spelling
pub some_constant : (x : Constant) × IsConstantSpelled x
some_constant = (v.Unit, tt)

-- each has a byte
pub constants_filled : (x : Constant) → 1 ≤ length (constant_bytes x)
constants_filled (v.Int n) = omega arith
constants_filled (v.Truth b) = omega arith
constants_filled v.Unit = lit≤ tt
constants_filled (v.Text t) = omega arith
constants_filled (v.Grant n) = lit≤ tt
constants_filled (v.Instance n) = lit≤ tt

-- no bytes begin those of another
pub constants_apart : AreApart IsConstantSpelled constant_bytes
constants_apart (v.Int n) (v.Int m) others more is_x is_y e =
    let behind : int_bytes n ++ others ≡ int_bytes m ++ more = cc in
    let both = ints_apart n m others more is_x is_y behind in
    (ap (λ (x : ℤ). v.Int x) both.0, both.1)
constants_apart (v.Int n) y others more is_x is_y e = absurd cc
constants_apart (v.Truth b) (v.Truth c) others more is_x is_y e =
    let behind : truth_bytes b ++ others ≡ truth_bytes c ++ more = cc in
    let both = truths_apart b c others more is_x is_y behind in
    (ap (λ (x : Bool). v.Truth x) both.0, both.1)
constants_apart (v.Truth b) y others more is_x is_y e = absurd cc
constants_apart v.Unit v.Unit others more is_x is_y e = (refl, cc)
constants_apart v.Unit y others more is_x is_y e = absurd cc
constants_apart (v.Text t) (v.Text s) others more is_x is_y e =
    let behind : text_bytes t ++ others ≡ text_bytes s ++ more = cc in
    let both = texts_apart t s others more is_x is_y behind in
    (ap (λ (x : List ℕ). v.Text x) both.0, both.1)
constants_apart (v.Text t) y others more is_x is_y e = absurd cc
constants_apart (v.Grant n) (v.Grant m) others more is_x is_y e =
    let behind : number_bytes n ++ others ≡ number_bytes m ++ more = cc in
    let both = numbers_apart n m others more is_x is_y behind in
    (ap (λ (x : ℕ). v.Grant x) both.0, both.1)
constants_apart (v.Grant n) y others more is_x is_y e = absurd cc
constants_apart (v.Instance n) (v.Instance m) others more is_x is_y e =
    let behind : number_bytes n ++ others ≡ number_bytes m ++ more = cc in
    let both = numbers_apart n m others more is_x is_y behind in
    (ap (λ (x : ℕ). v.Instance x) both.0, both.1)
constants_apart (v.Instance n) y others more is_x is_y e = absurd cc

-- the kind
abbrev pub constant_kind : Kind
constant_kind = record {
  Value = Constant;
  IsSpelled = IsConstantSpelled;
  bytes_of = constant_bytes;
  some = some_constant;
  apart = constants_apart;
  filled = constants_filled;
}
