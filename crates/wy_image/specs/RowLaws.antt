-- Rows: an instruction and its place.
use Rattle.std.proofs.Common.{refl}
use Rattle.wy_image.specs.InstructionLaws.{instruction_kind}
use Rattle.wy_image.specs.Spelled.{IsRowSpelled, row_bytes}
use Rattle.wy_image.specs.declared.file.Row.{Row}
use Rattle.wy_spelling.specs.Kinds.{Kind, Shape, number_kind, pair_of, shaped}

-- the parts, in the order of their bytes
abbrev pub row_parts : Kind
row_parts = pair_of instruction_kind (pair_of number_kind (pair_of number_kind number_kind))

-- the whole of its parts
abbrev pub row_of : row_parts.Value → Row
row_of p = record { instruction = p.0; file = p.1.0; line = p.1.1.0; column = p.1.1.1 }

-- the whole and its parts have the same bytes
abbrev pub row_shape : Shape
row_shape = record {
  parts = row_parts;
  Value = Row;
  IsSpelled = IsRowSpelled;
  bytes_of = row_bytes;
  whole = row_of;
  parted = λ s. (s.instruction, (s.file, (s.line, s.column)));
  is = record {
    back = λ s. refl;
    whole_spelled = λ p is. is;
    whole_bytes = λ p. refl;
    parts_spelled = λ s is. is;
    parts_bytes = λ s. refl;
  };
}

-- the kind
abbrev pub row_kind : Kind
row_kind = shaped row_shape
