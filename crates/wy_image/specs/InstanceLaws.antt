-- Instances: a name, a scope, the arguments, and what is stated.
use Rattle.std.proofs.Common.{refl}
use Rattle.wy_image.specs.ArgumentLaws.{argument_kind}
use Rattle.wy_image.specs.Spelled.{IsInstanceSpelled, instance_bytes}
use Rattle.wy_image.specs.TypingLaws.{typing_kind}
use Rattle.wy_image.specs.declared.file.Instance.{Instance}
use Rattle.wy_spelling.specs.Kinds.{Kind, Shape, list_of, number_kind, pair_of, shaped, text_kind}

-- the parts, in the order of their bytes
abbrev pub instance_parts : Kind
instance_parts = pair_of text_kind (pair_of number_kind (pair_of (list_of argument_kind) typing_kind))

-- the whole of its parts
abbrev pub instance_of : instance_parts.Value → Instance
instance_of p = record { name = p.0; scope = p.1.0; arguments = p.1.1.0; typing = p.1.1.1 }

-- the whole and its parts have the same bytes
abbrev pub instance_shape : Shape
instance_shape = record {
  parts = instance_parts;
  Value = Instance;
  IsSpelled = IsInstanceSpelled;
  bytes_of = instance_bytes;
  whole = instance_of;
  parted = λ s. (s.name, (s.scope, (s.arguments, s.typing)));
  is = record {
    back = λ s. refl;
    whole_spelled = λ p is. is;
    whole_bytes = λ p. refl;
    parts_spelled = λ s is. is;
    parts_bytes = λ s. refl;
  };
}

-- the kind
abbrev pub instance_kind : Kind
instance_kind = shaped instance_shape
