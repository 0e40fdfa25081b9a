-- Targets: an address, the operands there, and the stored slots.
use Rattle.std.proofs.Common.{refl}
use Rattle.wy_image.specs.ReferenceLaws.{reference_kind}
use Rattle.wy_image.specs.Spelled.{IsTargetSpelled, target_bytes}
use Rattle.wy_image.specs.declared.typing.Target.{Target}
use Rattle.wy_spelling.specs.Kinds.{Kind, Shape, list_of, number_kind, pair_of, shaped}

-- the parts, in the order of their bytes
abbrev pub target_parts : Kind
target_parts = pair_of number_kind (pair_of (list_of reference_kind) (list_of number_kind))

-- the whole of its parts
abbrev pub target_of : target_parts.Value → Target
target_of p = record { address = p.0; operands = p.1.0; stored = p.1.1 }

-- the whole and its parts have the same bytes
abbrev pub target_shape : Shape
target_shape = record {
  parts = target_parts;
  Value = Target;
  IsSpelled = IsTargetSpelled;
  bytes_of = target_bytes;
  whole = target_of;
  parted = λ s. (s.address, (s.operands, s.stored));
  is = record {
    back = λ s. refl;
    whole_spelled = λ p is. is;
    whole_bytes = λ p. refl;
    parts_spelled = λ s is. is;
    parts_bytes = λ s. refl;
  };
}

-- the kind
abbrev pub target_kind : Kind
target_kind = shaped target_shape
