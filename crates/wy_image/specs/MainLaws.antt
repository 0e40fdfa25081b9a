-- The program: its scope, and what is stated of it.
use Rattle.std.proofs.Common.{refl}
use Rattle.wy_image.specs.Spelled.{IsMainSpelled, main_bytes}
use Rattle.wy_image.specs.TypingLaws.{typing_kind}
use Rattle.wy_image.specs.declared.file.Main.{Main}
use Rattle.wy_spelling.specs.Kinds.{Kind, Shape, number_kind, pair_of, shaped}

-- the parts, in the order of their bytes
abbrev pub main_parts : Kind
main_parts = pair_of number_kind typing_kind

-- the whole of its parts
abbrev pub main_of : main_parts.Value → Main
main_of p = record { scope = p.0; typing = p.1 }

-- the whole and its parts have the same bytes
abbrev pub main_shape : Shape
main_shape = record {
  parts = main_parts;
  Value = Main;
  IsSpelled = IsMainSpelled;
  bytes_of = main_bytes;
  whole = main_of;
  parted = λ s. (s.scope, s.typing);
  is = record {
    back = λ s. refl;
    whole_spelled = λ p is. is;
    whole_bytes = λ p. refl;
    parts_spelled = λ s is. is;
    parts_bytes = λ s. refl;
  };
}

-- the kind
abbrev pub main_kind : Kind
main_kind = shaped main_shape
