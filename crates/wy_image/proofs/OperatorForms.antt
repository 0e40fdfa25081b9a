-- The bytes of operators.
use Rattle.std.proofs.Common.{◌≢◌, ℕ, ◌<◌, ◌≤◌, List, get_or, arith}
use Rattle.wy_image.specs.Spelled.{operator_byte, operator_bytes}
use Rattle.wy_code.specs.declared.instruction.Operator.{Operator}
use Rattle.wy_code.specs.declared.instruction.Operator.TheVariants as v

byte_most : (x : Operator) → operator_byte x ≤ 18
byte_most v.Add = omega arith
byte_most v.Subtract = omega arith
byte_most v.Multiply = omega arith
byte_most v.Divide = omega arith
byte_most v.Remainder = omega arith
byte_most v.Negate = omega arith
byte_most v.Less = omega arith
byte_most v.LessOrEqual = omega arith
byte_most v.Greater = omega arith
byte_most v.GreaterOrEqual = omega arith
byte_most v.Equal = omega arith
byte_most v.NotEqual = omega arith
byte_most v.Not = omega arith
byte_most v.Join = omega arith
byte_most v.Size = omega arith
byte_most v.Part = omega arith
byte_most v.Code = omega arith
byte_most v.Byte = omega arith
byte_most v.Show = omega arith

-- a greater byte is of none
pub other_form : (bytes : List ℕ) → 18 < get_or bytes 0 0 → (x : Operator)
    → get_or (operator_bytes x) 0 0 ≢ get_or bytes 0 0
other_form bytes more x same = omega (arith, more, byte_most x, same)
