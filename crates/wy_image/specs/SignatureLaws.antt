-- Signatures: a method, the types of its parameters, its effect and the type of its result.
use Rattle.std.proofs.Common.{refl}
use Rattle.wy_image.specs.AtomLaws.{atom_kind}
use Rattle.wy_image.specs.ReferenceLaws.{reference_kind}
use Rattle.wy_image.specs.Spelled.{IsSignatureSpelled, signature_bytes}
use Rattle.wy_image.specs.declared.typing.Signature.{Signature}
use Rattle.wy_spelling.specs.Kinds.{Kind, Shape, list_of, number_kind, pair_of, shaped}

-- the parts, in the order of their bytes
abbrev pub signature_parts : Kind
signature_parts = pair_of number_kind (pair_of (list_of reference_kind) (pair_of (list_of atom_kind) reference_kind))

-- the whole of its parts
abbrev pub signature_of : signature_parts.Value → Signature
signature_of p = record { method = p.0; parameters = p.1.0; effect = p.1.1.0; result = p.1.1.1 }

-- the whole and its parts have the same bytes
abbrev pub signature_shape : Shape
signature_shape = record {
  parts = signature_parts;
  Value = Signature;
  IsSpelled = IsSignatureSpelled;
  bytes_of = signature_bytes;
  whole = signature_of;
  parted = λ s. (s.method, (s.parameters, (s.effect, s.result)));
  is = record {
    back = λ s. refl;
    whole_spelled = λ p is. is;
    whole_bytes = λ p. refl;
    parts_spelled = λ s is. is;
    parts_bytes = λ s. refl;
  };
}

-- the kind
abbrev pub signature_kind : Kind
signature_kind = shaped signature_shape
