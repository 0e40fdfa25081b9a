-- Operators on the values of a run. (docs/LANGUAGE.md, "Operations")
use Rattle.std.specs.Prelude.{List, Option, Some, None, map}
use Rattle.wy_text.specs.declared.fault.Place.{Place}
use Rattle.wy_types.specs.declared.code.UnaryOperator.{UnaryOperator}
use Rattle.wy_types.specs.declared.code.UnaryOperator.TheVariants as unary
use Rattle.wy_types.specs.declared.code.BinaryOperator.{BinaryOperator}
use Rattle.wy_types.specs.declared.code.BinaryOperator.TheVariants as binary
use Rattle.wy_types.specs.declared.code.TextOperator.{TextOperator}
use Rattle.wy_types.specs.declared.code.TextOperator.TheVariants as text
use Rattle.wy_device.specs.Editions.{Edition}
use Rattle.wy_device.specs.Operators.{Operator, Negate, Not, Add, Subtract, Multiply, Divide, Remainder, Join, Less, LessOrEqual, Greater, GreaterOrEqual, Equal, NotEqual, Size, Part, Code, Byte, Show, Operand, Number, Truth as TruthOperand, Bytes, Other, Computed, GivesNumber, GivesTruth, Builds, Traps, Misfits, operate_within}
use Rattle.wy_device.specs.RunEnds.{Trap, Wrong}
use Rattle.wy_meaning.specs.Values.{Value, Int, Truth, Nothing, Text, Object, Grant, World, Reply, replied, stopped, text_built}

abbrev pub unary_operator : UnaryOperator → Operator
unary_operator unary.Negate = Negate
unary_operator unary.Not = Not

-- `&&` and `||` are no operators of two values
abbrev pub binary_operator : BinaryOperator → Option Operator
binary_operator binary.Add = Some Add
binary_operator binary.Subtract = Some Subtract
binary_operator binary.Multiply = Some Multiply
binary_operator binary.Divide = Some Divide
binary_operator binary.Remainder = Some Remainder
binary_operator binary.Join = Some Join
binary_operator binary.Less = Some Less
binary_operator binary.LessOrEqual = Some LessOrEqual
binary_operator binary.Greater = Some Greater
binary_operator binary.GreaterOrEqual = Some GreaterOrEqual
binary_operator binary.Equal = Some Equal
binary_operator binary.NotEqual = Some NotEqual
binary_operator binary.And = None
binary_operator binary.Or = None

abbrev pub text_operator : TextOperator → Operator
text_operator text.Size = Size
text_operator text.Part = Part
text_operator text.Code = Code
text_operator text.Byte = Byte
text_operator text.Show = Show

abbrev pub operand : Value → Operand
operand (Int n) = Number n
operand (Truth b) = TruthOperand b
operand (Text bytes) = Bytes bytes
operand Nothing = Other
operand (Object a) = Other
operand (Grant g) = Other

abbrev pub computed : Place → World → Computed → Reply
computed place w (GivesNumber n) = replied (Int n) w
computed place w (GivesTruth b) = replied (Truth b) w
computed place w (Builds bytes) = text_built place bytes w
computed place w (Traps kind) = stopped (Trap kind place) w
computed place w Misfits = stopped Wrong w

-- what an operator gives for values, at its mark
abbrev pub operated : Edition → Place → Option Operator → List Value → World → Reply
operated edition place None vs w = stopped Wrong w
operated edition place (Some o) vs w = computed place w (operate_within edition.longest o (map operand vs))
