-- What is stated of a body.
use Rattle.std.proofs.Common.{refl}
use Rattle.wy_image.specs.AtomLaws.{atom_kind}
use Rattle.wy_image.specs.ReferenceLaws.{reference_kind}
use Rattle.wy_image.specs.Spelled.{IsBoundsSpelled, bounds_bytes}
use Rattle.wy_image.specs.TargetLaws.{target_kind}
use Rattle.wy_image.specs.declared.typing.Bounds.{Bounds}
use Rattle.wy_spelling.specs.Kinds.{Kind, Shape, list_of, number_kind, pair_of, shaped, text_kind}

-- the parts, in the order of their bytes
abbrev pub bounds_parts : Kind
bounds_parts =
    pair_of number_kind
    (pair_of text_kind
    (pair_of (list_of atom_kind)
    (pair_of (list_of reference_kind)
    (pair_of reference_kind
    (pair_of (list_of reference_kind) (list_of target_kind))))))

-- the whole of its parts
abbrev pub bounds_of : bounds_parts.Value → Bounds
bounds_of p = record {
  body = p.0;
  name = p.1.0;
  effect = p.1.1.0;
  parameters = p.1.1.1.0;
  result = p.1.1.1.1.0;
  vals = p.1.1.1.1.1.0;
  targets = p.1.1.1.1.1.1;
}

-- the whole and its parts have the same bytes
abbrev pub bounds_shape : Shape
bounds_shape = record {
  parts = bounds_parts;
  Value = Bounds;
  IsSpelled = IsBoundsSpelled;
  bytes_of = bounds_bytes;
  whole = bounds_of;
  parted = λ s. (s.body, (s.name, (s.effect, (s.parameters, (s.result, (s.vals, s.targets))))));
  is = record {
    back = λ s. refl;
    whole_spelled = λ p is. is;
    whole_bytes = λ p. refl;
    parts_spelled = λ s is. is;
    parts_bytes = λ s. refl;
  };
}

-- the kind
abbrev pub bounds_kind : Kind
bounds_kind = shaped bounds_shape
