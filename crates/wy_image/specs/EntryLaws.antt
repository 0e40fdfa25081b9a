-- Entries: a method and its body.
use Rattle.std.proofs.Common.{refl}
use Rattle.wy_image.specs.Spelled.{IsEntrySpelled, entry_bytes}
use Rattle.wy_image.specs.declared.file.Entry.{Entry}
use Rattle.wy_spelling.specs.Kinds.{Kind, Shape, number_kind, pair_of, shaped}

-- the parts, in the order of their bytes
abbrev pub entry_parts : Kind
entry_parts = pair_of number_kind number_kind

-- the whole of its parts
abbrev pub entry_of : entry_parts.Value → Entry
entry_of p = record { method = p.0; body = p.1 }

-- the whole and its parts have the same bytes
abbrev pub entry_shape : Shape
entry_shape = record {
  parts = entry_parts;
  Value = Entry;
  IsSpelled = IsEntrySpelled;
  bytes_of = entry_bytes;
  whole = entry_of;
  parted = λ s. (s.method, s.body);
  is = record {
    back = λ s. refl;
    whole_spelled = λ p is. is;
    whole_bytes = λ p. refl;
    parts_spelled = λ s is. is;
    parts_bytes = λ s. refl;
  };
}

-- the kind
abbrev pub entry_kind : Kind
entry_kind = shaped entry_shape
