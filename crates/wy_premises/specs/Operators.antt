-- What an operator gives, by the rows of its table (docs/LANGUAGE.md, "Operators").
use Rattle.std.specs.Prelude.{List, [], ◌∷◌, Option, Some, None, Bool as Truth, false, if◌then◌else◌}
use Rattle.wy_types.specs.declared.types.TypeRef.{TypeRef}
use Rattle.wy_types.specs.declared.code.UnaryOperator.{UnaryOperator}
use Rattle.wy_types.specs.declared.code.BinaryOperator.{BinaryOperator}
use Rattle.wy_types.specs.declared.code.TextOperator.{TextOperator}
use Rattle.wy_rules.specs.Operators.{Row, unary_rows, binary_rows, text_rows}
use Rattle.wy_rules.specs.Canonical.{first_row, same_type}

-- whether the first of these types is the type
abbrev pub begin_with : List TypeRef → TypeRef → Truth
begin_with [] t = false
begin_with (u ∷ us) t = same_type t u

-- the result of the first row whose first operand has the type
abbrev pub result_in : List Row → TypeRef → Option TypeRef
result_in [] t = None
result_in (r ∷ rows) t = if begin_with r.operands t then Some r.result else result_in rows t

-- the result's type, where the operator takes an operand of this type
abbrev pub unary_result : UnaryOperator → TypeRef → Option TypeRef
unary_result op t = result_in (unary_rows op) t

-- .. where it takes a first operand of this type; the second one has to have the same type
abbrev pub binary_result : BinaryOperator → TypeRef → Option TypeRef
binary_result op t = result_in (binary_rows op) t

-- the types that an operation on texts asks of its operands, and its result's
abbrev pub text_operands : TextOperator → List TypeRef
text_operands op = (first_row (text_rows op)).operands

abbrev pub text_result : TextOperator → TypeRef
text_result op = (first_row (text_rows op)).result
