-- Primitive types: a byte each.
use Rattle.std.proofs.Common.{◌≡◌, ◌≤◌, List, [], ◌∷◌, length, get_or, refl, sym, ap, ◌∙◌, lit≤}
use Rattle.wy_spelling.specs.Spelling.{AreApart}
use Rattle.wy_image.specs.Spelled.{IsPrimitiveSpelled, primitive_byte, primitive_bytes}
use Rattle.wy_device.specs.declared.primitive.Primitive.{Primitive}
use Rattle.wy_device.specs.declared.primitive.Primitive.TheVariants as v
use Rattle.wy_spelling.specs.Kinds.{Kind}

-- one that has a spelling
pub some_primitive : (x : Primitive) × IsPrimitiveSpelled x
some_primitive = (v.Console, tt)

-- each has a byte
pub primitives_filled : (x : Primitive) → 1 ≤ length (primitive_bytes x)
primitives_filled x = lit≤ tt

-- each at the place of its byte
abbrev all : List Primitive
all = v.Console ∷ v.Folder ∷ v.Clock ∷ v.Random ∷ v.FullFolder ∷ []

found_at : (x : Primitive) → get_or all (primitive_byte x) v.Console ≡ x
found_at v.Console = refl
found_at v.Folder = refl
found_at v.Clock = refl
found_at v.Random = refl
found_at v.FullFolder = refl

-- no bytes begin those of another
pub primitives_apart : AreApart IsPrimitiveSpelled primitive_bytes
primitives_apart x y others more is_x is_y e =
    let same : primitive_byte x ≡ primitive_byte y = cc in
    (sym (found_at x) ∙ ap (λ byte. get_or all byte v.Console) same ∙ found_at y, cc)

-- the kind
abbrev pub primitive_kind : Kind
primitive_kind = record {
  Value = Primitive;
  IsSpelled = IsPrimitiveSpelled;
  bytes_of = primitive_bytes;
  some = some_primitive;
  apart = primitives_apart;
  filled = primitives_filled;
}
