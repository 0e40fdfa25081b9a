-- Scopes: the number of arguments, the first body, the number of fields, the methods and the literals.
use Rattle.std.proofs.Common.{refl}
use Rattle.wy_image.specs.EntryLaws.{entry_kind}
use Rattle.wy_image.specs.LiteralLaws.{literal_kind}
use Rattle.wy_image.specs.Spelled.{IsScopeSpelled, scope_bytes}
use Rattle.wy_image.specs.declared.file.Scope.{Scope}
use Rattle.wy_spelling.specs.Kinds.{Kind, Shape, list_of, number_kind, pair_of, shaped}

-- the parts, in the order of their bytes
abbrev pub scope_parts : Kind
scope_parts =
    pair_of number_kind
    (pair_of number_kind
    (pair_of number_kind
    (pair_of (list_of entry_kind) (list_of literal_kind))))

-- the whole of its parts
abbrev pub scope_of : scope_parts.Value → Scope
scope_of p = record { arguments = p.0; first = p.1.0; fields = p.1.1.0; entries = p.1.1.1.0; literals = p.1.1.1.1 }

-- the whole and its parts have the same bytes
abbrev pub scope_shape : Shape
scope_shape = record {
  parts = scope_parts;
  Value = Scope;
  IsSpelled = IsScopeSpelled;
  bytes_of = scope_bytes;
  whole = scope_of;
  parted = λ s. (s.arguments, (s.first, (s.fields, (s.entries, s.literals))));
  is = record {
    back = λ s. refl;
    whole_spelled = λ p is. is;
    whole_bytes = λ p. refl;
    parts_spelled = λ s is. is;
    parts_bytes = λ s. refl;
  };
}

-- the kind
abbrev pub scope_kind : Kind
scope_kind = shaped scope_shape
