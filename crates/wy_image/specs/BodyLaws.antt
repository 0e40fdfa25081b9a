-- Bodies: the numbers of parameters and slots, and the rows.
use Rattle.std.proofs.Common.{refl}
use Rattle.wy_image.specs.RowLaws.{row_kind}
use Rattle.wy_image.specs.Spelled.{IsBodySpelled, body_bytes}
use Rattle.wy_image.specs.declared.file.Body.{Body}
use Rattle.wy_spelling.specs.Kinds.{Kind, Shape, list_of, number_kind, pair_of, shaped}

-- the parts, in the order of their bytes
abbrev pub body_parts : Kind
body_parts = pair_of number_kind (pair_of number_kind (list_of row_kind))

-- the whole of its parts
abbrev pub body_of : body_parts.Value → Body
body_of p = record { parameters = p.0; slots = p.1.0; rows = p.1.1 }

-- the whole and its parts have the same bytes
abbrev pub body_shape : Shape
body_shape = record {
  parts = body_parts;
  Value = Body;
  IsSpelled = IsBodySpelled;
  bytes_of = body_bytes;
  whole = body_of;
  parted = λ s. (s.parameters, (s.slots, s.rows));
  is = record {
    back = λ s. refl;
    whole_spelled = λ p is. is;
    whole_bytes = λ p. refl;
    parts_spelled = λ s is. is;
    parts_bytes = λ s. refl;
  };
}

-- the kind
abbrev pub body_kind : Kind
body_kind = shaped body_shape
