-- Grants: a name and a primitive type.
use Rattle.std.proofs.Common.{refl}
use Rattle.wy_image.specs.PrimitiveLaws.{primitive_kind}
use Rattle.wy_image.specs.Spelled.{IsGrantSpelled, grant_bytes}
use Rattle.wy_image.specs.declared.file.Grant.{Grant}
use Rattle.wy_spelling.specs.Kinds.{Kind, Shape, pair_of, shaped, text_kind}

-- the parts, in the order of their bytes
abbrev pub grant_parts : Kind
grant_parts = pair_of text_kind primitive_kind

-- the whole of its parts
abbrev pub grant_of : grant_parts.Value → Grant
grant_of p = record { name = p.0; primitive = p.1 }

-- the whole and its parts have the same bytes
abbrev pub grant_shape : Shape
grant_shape = record {
  parts = grant_parts;
  Value = Grant;
  IsSpelled = IsGrantSpelled;
  bytes_of = grant_bytes;
  whole = grant_of;
  parted = λ s. (s.name, s.primitive);
  is = record {
    back = λ s. refl;
    whole_spelled = λ p is. is;
    whole_bytes = λ p. refl;
    parts_spelled = λ s is. is;
    parts_bytes = λ s. refl;
  };
}

-- the kind
abbrev pub grant_kind : Kind
grant_kind = shaped grant_shape
