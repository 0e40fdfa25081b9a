-- The bytes of primitive types.
use Rattle.std.proofs.Common.{◌≢◌, ℕ, ◌<◌, ◌≤◌, List, get_or, arith}
use Rattle.wy_image.specs.Spelled.{primitive_byte, primitive_bytes}
use Rattle.wy_device.specs.declared.primitive.Primitive.{Primitive}
use Rattle.wy_device.specs.declared.primitive.Primitive.TheVariants as v

byte_most : (x : Primitive) → primitive_byte x ≤ 4
byte_most v.Console = omega arith
byte_most v.Folder = omega arith
byte_most v.Clock = omega arith
byte_most v.Random = omega arith
byte_most v.FullFolder = omega arith

-- a greater byte is of none
pub other_form : (bytes : List ℕ) → 4 < get_or bytes 0 0 → (x : Primitive)
    → get_or (primitive_bytes x) 0 0 ≢ get_or bytes 0 0
other_form bytes more x same = omega (arith, more, byte_most x, same)
