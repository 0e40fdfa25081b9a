-- Atoms: a grant and a member.
use Rattle.std.proofs.Common.{refl}
use Rattle.wy_image.specs.Spelled.{IsAtomSpelled, atom_bytes}
use Rattle.wy_image.specs.declared.typing.Atom.{Atom}
use Rattle.wy_spelling.specs.Kinds.{Kind, Shape, number_kind, pair_of, shaped}

-- the parts, in the order of their bytes
abbrev pub atom_parts : Kind
atom_parts = pair_of number_kind number_kind

-- the whole of its parts
abbrev pub atom_of : atom_parts.Value → Atom
atom_of p = record { grant = p.0; member = p.1 }

-- the whole and its parts have the same bytes
abbrev pub atom_shape : Shape
atom_shape = record {
  parts = atom_parts;
  Value = Atom;
  IsSpelled = IsAtomSpelled;
  bytes_of = atom_bytes;
  whole = atom_of;
  parted = λ s. (s.grant, s.member);
  is = record {
    back = λ s. refl;
    whole_spelled = λ p is. is;
    whole_bytes = λ p. refl;
    parts_spelled = λ s is. is;
    parts_bytes = λ s. refl;
  };
}

-- the kind
abbrev pub atom_kind : Kind
atom_kind = shaped atom_shape
