-- Kinds of values, and kinds that are made of others.
use Rattle.std.proofs.Common.{ℕ, ◌≤◌, List, length}
use Rattle.wy_spelling.specs.IntLaws.{ints_apart, ints_filled, some_int}
use Rattle.wy_spelling.specs.ListLaws.{lists_apart, lists_filled, some_list}
use Rattle.wy_spelling.specs.NumberLaws.{numbers_apart, numbers_filled, some_number}
use Rattle.wy_spelling.specs.PairLaws.{pairs_apart, pairs_filled}
use Rattle.wy_spelling.specs.Plain.{IsIntSpelled, IsTextSpelled, IsTruthSpelled, int_bytes, text_bytes, truth_bytes}
use Rattle.wy_spelling.specs.ShapeLaws.{IsShape, apart_in_shape, filled_in_shape, some_in_shape}
use Rattle.wy_spelling.specs.Spelling.{AreApart, AreBoth, AreSpelled, IsNumber, both_bytes, list_bytes, number_bytes}
use Rattle.wy_spelling.specs.TextLaws.{some_text, texts_apart, texts_filled}
use Rattle.wy_spelling.specs.TruthLaws.{some_truth, truths_apart, truths_filled}

-- a kind: its values, which of them have a spelling, their bytes, and the laws of a kind that is read and written
pub record Kind : Type 1 where
  pub Value : Type 0
  pub IsSpelled : Value → Type 0
  pub bytes_of : Value → List ℕ
  pub some : (x : Value) × IsSpelled x
  pub apart : AreApart IsSpelled bytes_of
  pub filled : (x : Value) → 1 ≤ length (bytes_of x)

-- numbers of four bytes
abbrev pub number_kind : Kind
number_kind = record {
  Value = _;
  IsSpelled = IsNumber;
  bytes_of = number_bytes;
  some = some_number;
  apart = numbers_apart;
  filled = numbers_filled;
}

-- Ints of eight bytes
abbrev pub int_kind : Kind
int_kind = record {
  Value = _;
  IsSpelled = IsIntSpelled;
  bytes_of = int_bytes;
  some = some_int;
  apart = ints_apart;
  filled = ints_filled;
}

-- truth values
abbrev pub truth_kind : Kind
truth_kind = record {
  Value = _;
  IsSpelled = IsTruthSpelled;
  bytes_of = truth_bytes;
  some = some_truth;
  apart = truths_apart;
  filled = truths_filled;
}

-- texts
abbrev pub text_kind : Kind
text_kind = record {
  Value = _;
  IsSpelled = IsTextSpelled;
  bytes_of = text_bytes;
  some = some_text;
  apart = texts_apart;
  filled = texts_filled;
}

-- lists of values of a kind
abbrev pub list_of : Kind → Kind
list_of k = record {
  Value = List k.Value;
  IsSpelled = AreSpelled k.IsSpelled;
  bytes_of = list_bytes k.bytes_of;
  some = some_list k.IsSpelled;
  apart = lists_apart k.IsSpelled k.bytes_of k.apart;
  filled = lists_filled k.bytes_of;
}

-- a value of one kind, and then one of another
abbrev pub pair_of : Kind → Kind → Kind
pair_of a b = record {
  Value = a.Value × b.Value;
  IsSpelled = AreBoth a.IsSpelled b.IsSpelled;
  bytes_of = both_bytes a.bytes_of b.bytes_of;
  some = ((a.some.0, b.some.0), (a.some.1, b.some.1));
  apart = pairs_apart a.IsSpelled a.bytes_of b.IsSpelled b.bytes_of a.apart b.apart;
  filled = pairs_filled a.bytes_of b.bytes_of a.filled;
}

-- values of a kind in another shape: the whole of the parts, and the parts of the whole, with the same bytes
pub record Shape : Type 1 where
  pub parts : Kind
  pub Value : Type 0
  pub IsSpelled : Value → Type 0
  pub bytes_of : Value → List ℕ
  pub whole : parts.Value → Value
  pub parted : Value → parts.Value
  pub is : IsShape parts.IsSpelled parts.bytes_of IsSpelled bytes_of whole parted

-- the kind of a shape
abbrev pub shaped : Shape → Kind
shaped s = record {
  Value = s.Value;
  IsSpelled = s.IsSpelled;
  bytes_of = s.bytes_of;
  some = some_in_shape s.parts.IsSpelled s.parts.bytes_of s.IsSpelled s.bytes_of s.whole s.parted s.is s.parts.some;
  apart = apart_in_shape s.parts.IsSpelled s.parts.bytes_of s.IsSpelled s.bytes_of s.whole s.parted s.is s.parts.apart;
  filled =
      filled_in_shape s.parts.IsSpelled s.parts.bytes_of s.IsSpelled s.bytes_of s.whole s.parted s.is s.parts.filled;
}
