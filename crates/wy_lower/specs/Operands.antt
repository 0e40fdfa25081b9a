-- How many operands a body has at once, at most. (docs/LANGUAGE.md, "Code of programs")
use Rattle.std.specs.Prelude.{ℕ, suc, max}
use Rattle.wy_types.specs.Code as code
use Rattle.wy_types.specs.Code.{Expr, Number, Quoted, Truth, Nothing, This, Name, Unary, Binary, TextCall, Call, New, Ascribe, Assign, Plain, If, Values, none, more, Block, Last, Then, Val}
use Rattle.wy_types.specs.declared.code.BinaryOperator.{BinaryOperator}
use Rattle.wy_types.specs.declared.code.BinaryOperator.TheVariants.{And, Or}
use Rattle.wy_types.specs.Program.{Start, Init, Run}

-- the right side has the left one's value below it, but for `&&` and `||`
abbrev pub two_operands : BinaryOperator → ℕ → ℕ → ℕ
two_operands And x y = max x y
two_operands Or x y = max x y
two_operands _ x y = max x (suc y)

unfoldable mutual
  pub operands : Expr → ℕ
  operands (Number place n) = 1
  operands (Quoted place bytes) = 1
  operands (Truth place b) = 1
  operands (Nothing place) = 1
  operands (This place) = 1
  operands (Name place name) = 1
  operands (Unary place o x) = operands x
  operands (Binary place o x y) = two_operands o (operands x) (operands y)
  operands (TextCall place o xs) = values_operands xs
  operands (Call place x method xs) = max (operands x) (suc (values_operands xs))
  operands (New place l xs) = max 1 (values_operands xs)
  operands (Ascribe place x t) = value_operands x
  operands (Assign place name x) = value_operands x

  pub value_operands : code.Value → ℕ
  value_operands (Plain x) = operands x
  value_operands (If place test first second) = max (operands test) (max (block_operands first) (block_operands second))

  -- of several values each has those before it below it
  pub values_operands : Values → ℕ
  values_operands none = 0
  values_operands (more x xs) = max (value_operands x) (suc (values_operands xs))

  pub block_operands : Block → ℕ
  block_operands (Last x) = value_operands x
  block_operands (Then x rest) = max (value_operands x) (block_operands rest)
  block_operands (Val place n typ x rest) = max (value_operands x) (block_operands rest)

-- the initialisers of fields are set one after the other
unfoldable pub fields_operands : Values → ℕ
fields_operands none = 0
fields_operands (more x xs) = max (value_operands x) (fields_operands xs)

abbrev pub start_operands : Start → ℕ
start_operands (Init values) = fields_operands values
start_operands (Run block) = block_operands block
