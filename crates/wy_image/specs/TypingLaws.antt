-- What an instance states.
use Rattle.std.proofs.Common.{refl}
use Rattle.wy_image.specs.BoundsLaws.{bounds_kind}
use Rattle.wy_image.specs.ReferenceLaws.{reference_kind}
use Rattle.wy_image.specs.Spelled.{IsTypingSpelled, typing_bytes}
use Rattle.wy_image.specs.declared.typing.Typing.{Typing}
use Rattle.wy_spelling.specs.Kinds.{Kind, Shape, list_of, pair_of, shaped}

-- the parts, in the order of their bytes
abbrev pub typing_parts : Kind
typing_parts = pair_of (list_of reference_kind) (pair_of (list_of (list_of reference_kind)) (list_of bounds_kind))

-- the whole of its parts
abbrev pub typing_of : typing_parts.Value → Typing
typing_of p = record { values = p.0; literals = p.1.0; bodies = p.1.1 }

-- the whole and its parts have the same bytes
abbrev pub typing_shape : Shape
typing_shape = record {
  parts = typing_parts;
  Value = Typing;
  IsSpelled = IsTypingSpelled;
  bytes_of = typing_bytes;
  whole = typing_of;
  parted = λ s. (s.values, (s.literals, s.bodies));
  is = record {
    back = λ s. refl;
    whole_spelled = λ p is. is;
    whole_bytes = λ p. refl;
    parts_spelled = λ s is. is;
    parts_bytes = λ s. refl;
  };
}

-- the kind
abbrev pub typing_kind : Kind
typing_kind = shaped typing_shape
