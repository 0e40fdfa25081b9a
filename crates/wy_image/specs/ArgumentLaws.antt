-- Arguments of instances: a byte for the form, and what the form has after it.
use Rattle.std.proofs.Common.{◌≡◌, ℕ, ◌≤◌, ◌++◌, length, ap, lit≤, lit<}
use Rattle.wy_spelling.specs.Spelling.{AreApart, number_bytes}
use Rattle.wy_spelling.specs.NumberLaws.{numbers_apart}
use Rattle.wy_image.specs.Spelled.{IsArgumentSpelled, argument_bytes}
use Rattle.wy_image.specs.declared.file.Argument.{Argument}
use Rattle.wy_image.specs.declared.file.Argument.TheVariants as v
use Rattle.wy_spelling.specs.Kinds.{Kind}

-- one that has a spelling
pub some_argument : (x : Argument) × IsArgumentSpelled x
some_argument = (v.Grant 0, lit< tt)

-- each has a byte
pub arguments_filled : (x : Argument) → 1 ≤ length (argument_bytes x)
arguments_filled (v.Grant n) = lit≤ tt
arguments_filled (v.Instance n) = lit≤ tt

-- no bytes begin those of another
pub arguments_apart : AreApart IsArgumentSpelled argument_bytes
arguments_apart (v.Grant n) (v.Grant m) others more is_x is_y e =
    let behind : number_bytes n ++ others ≡ number_bytes m ++ more = cc in
    let both = numbers_apart n m others more is_x is_y behind in
    (ap (λ (x : ℕ). v.Grant x) both.0, both.1)
arguments_apart (v.Grant n) y others more is_x is_y e = absurd cc
arguments_apart (v.Instance n) (v.Instance m) others more is_x is_y e =
    let behind : number_bytes n ++ others ≡ number_bytes m ++ more = cc in
    let both = numbers_apart n m others more is_x is_y behind in
    (ap (λ (x : ℕ). v.Instance x) both.0, both.1)
arguments_apart (v.Instance n) y others more is_x is_y e = absurd cc

-- the kind
abbrev pub argument_kind : Kind
argument_kind = record {
  Value = Argument;
  IsSpelled = IsArgumentSpelled;
  bytes_of = argument_bytes;
  some = some_argument;
  apart = arguments_apart;
  filled = arguments_filled;
}
