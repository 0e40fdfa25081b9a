-- Literals: the captured values, the number of fields, and the methods.
use Rattle.std.proofs.Common.{refl}
use Rattle.wy_image.specs.CaptureLaws.{capture_kind}
use Rattle.wy_image.specs.EntryLaws.{entry_kind}
use Rattle.wy_image.specs.Spelled.{IsLiteralSpelled, literal_bytes}
use Rattle.wy_image.specs.declared.file.Literal.{Literal}
use Rattle.wy_spelling.specs.Kinds.{Kind, Shape, list_of, number_kind, pair_of, shaped}

-- the parts, in the order of their bytes
abbrev pub literal_parts : Kind
literal_parts = pair_of (list_of capture_kind) (pair_of number_kind (list_of entry_kind))

-- the whole of its parts
abbrev pub literal_of : literal_parts.Value → Literal
literal_of p = record { captures = p.0; fields = p.1.0; entries = p.1.1 }

-- the whole and its parts have the same bytes
abbrev pub literal_shape : Shape
literal_shape = record {
  parts = literal_parts;
  Value = Literal;
  IsSpelled = IsLiteralSpelled;
  bytes_of = literal_bytes;
  whole = literal_of;
  parted = λ s. (s.captures, (s.fields, s.entries));
  is = record {
    back = λ s. refl;
    whole_spelled = λ p is. is;
    whole_bytes = λ p. refl;
    parts_spelled = λ s is. is;
    parts_bytes = λ s. refl;
  };
}

-- the kind
abbrev pub literal_kind : Kind
literal_kind = shaped literal_shape
