-- What the functions that emit code promise.
use Rattle.std.specs.Prelude.{◌≡◌, ℕ, true, false, List, ◌++◌, length}
use Rattle.wy_text.specs.declared.fault.Place.{Place}
use Rattle.wy_types.specs.declared.code.BinaryOperator.{BinaryOperator}
use Rattle.wy_types.specs.declared.code.BinaryOperator.TheVariants as binary
use Rattle.wy_types.specs.declared.code.Stmt.{Stmt, Val, Do}
use Rattle.wy_types.specs.View.{value_of}
use Rattle.wy_code.specs.declared.instruction.Constant.TheVariants.{Truth}
use Rattle.wy_code.specs.declared.instruction.Instruction.TheVariants.{Push, Store, Drop, Op}
use Rattle.wy_code.specs.declared.instruction.Operator.TheVariants as operator
use Rattle.wy_code.specs.declared.instruction.Placed.{Placed}
use Rattle.wy_lower.specs.declared.names.Inside as names
use Rattle.wy_lower.specs.declared.expressions.Sides.{Sides}
use Rattle.wy_lower.specs.declared.expressions.Sides.TheVariants.{Both, And, Or}
use Rattle.wy_lower.specs.Collected.{Collected}
use Rattle.wy_lower.specs.Inside.{Inside, val_slot}
use Rattle.wy_lower.specs.Listing.{one, sides, value_mark, value_listing}
use Rattle.wy_lower.specs.Operands.{value_operands}

-- what a body sees, as plain data
abbrev pub inside_of : names.Inside → Inside
inside_of i = record {
  program = i.program;
  actuals = i.actuals.now;
  owns = i.owns;
  number = i.number;
  parameters = i.parameters;
  vals = i.vals.now;
  captures = i.captures.now;
  texts = i.texts.now.keys;
  methods = i.methods.now.keys;
}

-- the instructions after a call are those before it, and then the code of a form at the address after those, if memory sufficed
pub record Emits (old new : Collected Placed) (code : ℕ → List Placed) : Type 0 where
  pub enough : new.wanting ≡ false → old.wanting ≡ false
  pub by : new.wanting ≡ false → new.list ≡ old.list ++ code (length old.list)

-- the instructions after a call are these, if memory sufficed
pub record Becomes (old new : Collected Placed) (list : List Placed) : Type 0 where
  pub enough : new.wanting ≡ false → old.wanting ≡ false
  pub is : new.wanting ≡ false → new.list ≡ list

-- what is found is this, and no instruction is added, if memory sufficed
pub record Finds {X : Type 0} (old new : Collected Placed) (found wanted : X) : Type 0 where
  pub enough : new.wanting ≡ false → old.wanting ≡ false
  pub same : new.wanting ≡ false → new.list ≡ old.list
  pub is : new.wanting ≡ false → found ≡ wanted

-- the code of a statement that stands before others
abbrev pub statement_listing : Inside → ℕ → Stmt → List Placed
statement_listing i at (Val place n typ x) = value_listing i at (value_of x) ++ one place (Store (val_slot i n))
statement_listing i at (Do x) = value_listing i at (value_of x) ++ one (value_mark (value_of x)) Drop

-- the operands of a statement that stands before others
abbrev pub statement_operands : Stmt → ℕ
statement_operands (Val place n typ x) = value_operands (value_of x)
statement_operands (Do x) = value_operands (value_of x)

-- how the sides of a binary operator are evaluated
abbrev pub evaluation : BinaryOperator → Sides
evaluation binary.And = And
evaluation binary.Or = Or
evaluation binary.Add = Both operator.Add
evaluation binary.Subtract = Both operator.Subtract
evaluation binary.Multiply = Both operator.Multiply
evaluation binary.Divide = Both operator.Divide
evaluation binary.Remainder = Both operator.Remainder
evaluation binary.Join = Both operator.Join
evaluation binary.Less = Both operator.Less
evaluation binary.LessOrEqual = Both operator.LessOrEqual
evaluation binary.Greater = Both operator.Greater
evaluation binary.GreaterOrEqual = Both operator.GreaterOrEqual
evaluation binary.Equal = Both operator.Equal
evaluation binary.NotEqual = Both operator.NotEqual

-- the code of a binary operator with its right side, after its left one
abbrev pub right_listing : Place → Sides → ℕ → (ℕ → List Placed) → List Placed
right_listing place (Both o) at right = right at ++ one place (Op o)
right_listing place And at right = sides place at right (λ at. one place (Push (Truth false)))
right_listing place Or at right = sides place at (λ at. one place (Push (Truth true))) right
