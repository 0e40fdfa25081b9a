-- The types of operands and results of each operator (docs/LANGUAGE.md, "Operators").
use Rattle.std.specs.Prelude.{List, [], ◌∷◌, Option, Some, None}
use Rattle.wy_types.specs.declared.types.TypeRef.{TypeRef}
use Rattle.wy_types.specs.declared.types.TypeRef.TheVariants.{Int, Bool, Text, Unit as Nothing}
use Rattle.wy_types.specs.declared.code.UnaryOperator.{UnaryOperator}
use Rattle.wy_types.specs.declared.code.UnaryOperator.TheVariants.{Negate, Not}
use Rattle.wy_types.specs.declared.code.BinaryOperator.{BinaryOperator}
use Rattle.wy_types.specs.declared.code.BinaryOperator.TheVariants.{Add, Subtract, Multiply, Divide, Remainder, Join, Less, LessOrEqual, Greater, GreaterOrEqual, Equal, NotEqual, And, Or}
use Rattle.wy_types.specs.declared.code.TextOperator.{TextOperator}
use Rattle.wy_types.specs.declared.code.TextOperator.TheVariants.{Size, Part, Code, Byte, Show}
use Rattle.wy_types.specs.Code.{Expr, Number, Quoted, Truth, Nothing as NothingOf, Unary, Binary, TextCall, Plain, Values, none, more}

-- a row of the table: what the operands are to be, and what comes of it
pub record Row : Type 0 where
  pub operands : List TypeRef
  pub result : TypeRef

abbrev pub row : List TypeRef → TypeRef → Row
row operands result = record { operands = operands; result = result }

abbrev pub unary_rows : UnaryOperator → List Row
unary_rows Negate = row (Int ∷ []) Int ∷ []
unary_rows Not = row (Bool ∷ []) Bool ∷ []

abbrev pub two : TypeRef → TypeRef → Row
two operand result = row (operand ∷ operand ∷ []) result

-- equality is asked of two numbers, two truth values or two texts
abbrev pub equality_rows : List Row
equality_rows = two Int Bool ∷ two Bool Bool ∷ two Text Bool ∷ []

abbrev pub binary_rows : BinaryOperator → List Row
binary_rows Add = two Int Int ∷ []
binary_rows Subtract = two Int Int ∷ []
binary_rows Multiply = two Int Int ∷ []
binary_rows Divide = two Int Int ∷ []
binary_rows Remainder = two Int Int ∷ []
binary_rows Join = two Text Text ∷ []
binary_rows Less = two Int Bool ∷ []
binary_rows LessOrEqual = two Int Bool ∷ []
binary_rows Greater = two Int Bool ∷ []
binary_rows GreaterOrEqual = two Int Bool ∷ []
binary_rows Equal = equality_rows
binary_rows NotEqual = equality_rows
binary_rows And = two Bool Bool ∷ []
binary_rows Or = two Bool Bool ∷ []

abbrev pub text_rows : TextOperator → List Row
text_rows Size = row (Text ∷ []) Int ∷ []
text_rows Part = row (Text ∷ Int ∷ Int ∷ []) Text ∷ []
text_rows Code = row (Text ∷ Int ∷ []) Int ∷ []
text_rows Byte = row (Int ∷ []) Text ∷ []
text_rows Show = row (Int ∷ []) Text ∷ []

-- an operation: its rows and its operands
pub record Operation : Type 0 where
  pub rows : List Row
  pub operands : Values

abbrev pub operation : List Row → Values → Option Operation
operation rows operands = Some (record { rows = rows; operands = operands })

abbrev pub operation_of : Expr → Option Operation
operation_of (Unary place op x) = operation (unary_rows op) (more (Plain x) none)
operation_of (Binary place op x y) = operation (binary_rows op) (more (Plain x) (more (Plain y) none))
operation_of (TextCall place op xs) = operation (text_rows op) xs
operation_of x = None

-- the type of a literal number, text, truth value or `()`
abbrev pub literal_type : Expr → Option TypeRef
literal_type (Number place n) = Some Int
literal_type (Quoted place bytes) = Some Text
literal_type (Truth place b) = Some Bool
literal_type (NothingOf place) = Some Nothing
literal_type x = None
