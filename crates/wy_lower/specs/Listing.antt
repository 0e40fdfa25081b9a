-- The instructions of each form: the parts in evaluation order, and then its own. (docs/LANGUAGE.md, "Code of programs")
use Rattle.std.specs.Prelude.{ℕ, ◌+◌, true, false, List, [], ◌∷◌, ◌++◌, length}
use Rattle.wy_text.specs.declared.fault.Place.{Place}
use Rattle.wy_types.specs.declared.code.UnaryOperator.{UnaryOperator}
use Rattle.wy_types.specs.declared.code.UnaryOperator.TheVariants as unary
use Rattle.wy_types.specs.declared.code.BinaryOperator.{BinaryOperator}
use Rattle.wy_types.specs.declared.code.BinaryOperator.TheVariants as binary
use Rattle.wy_types.specs.declared.code.TextOperator.{TextOperator}
use Rattle.wy_types.specs.declared.code.TextOperator.TheVariants as text
use Rattle.wy_types.specs.Code as code
use Rattle.wy_types.specs.Code.{Expr, Number, Quoted, Truth, Nothing, This, Name, Unary, Binary, TextCall, Call, New, Ascribe, Assign, Plain, If, Values, none, more, Block, Last, Then, Val}
use Rattle.wy_types.specs.Vals.{value_count}
use Rattle.wy_code.specs.declared.instruction.Constant.TheVariants as constant
use Rattle.wy_code.specs.declared.instruction.Operator.{Operator}
use Rattle.wy_code.specs.declared.instruction.Operator.TheVariants as operator
use Rattle.wy_code.specs.declared.instruction.Instruction.{Instruction}
use Rattle.wy_code.specs.declared.instruction.Instruction.TheVariants.{Push, Load, Store, Set, Drop, Op, Jump, JumpFalse, New as Make, Call as CallMethod}
use Rattle.wy_code.specs.declared.instruction.Placed.{Placed}
use Rattle.wy_lower.specs.Parts.{number_in}
use Rattle.wy_lower.specs.Inside.{Inside, name_code, assigned_value, val_slot, field_value}

-- an instruction at a mark
abbrev pub placed : Place → Instruction → Placed
placed place instruction = record { instruction = instruction; place = place }

abbrev pub one : Place → Instruction → List Placed
one place instruction = placed place instruction ∷ []

abbrev pub unary_code : UnaryOperator → Operator
unary_code unary.Negate = operator.Negate
unary_code unary.Not = operator.Not

abbrev pub text_code : TextOperator → Operator
text_code text.Size = operator.Size
text_code text.Part = operator.Part
text_code text.Code = operator.Code
text_code text.Byte = operator.Byte
text_code text.Show = operator.Show

-- JumpFalse to the second side, the first side, a Jump over the second side, the second side: after a test that ends
-- before this address
abbrev pub sides : Place → ℕ → (ℕ → List Placed) → (ℕ → List Placed) → List Placed
sides place at first second =
    let a : List Placed = first (at + 1) in
    let otherwise : ℕ = at + 1 + length a + 1 in
    let b : List Placed = second otherwise in
    placed place (JumpFalse otherwise) ∷ (a ++ placed place (Jump (otherwise + length b)) ∷ b)

-- a test that begins at this address, and its two sides
abbrev pub branches : Place → ℕ → List Placed → (ℕ → List Placed) → (ℕ → List Placed) → List Placed
branches place at test first second = test ++ sides place (at + length test) first second

-- a list that begins at this address, and what follows it
abbrev pub followed : ℕ → List Placed → (ℕ → List Placed) → List Placed
followed at first rest = first ++ rest (at + length first)

-- the code of a binary operator, with its left side, which begins at this address, and its right side
abbrev pub binary_listing : Place → BinaryOperator → ℕ → List Placed → (ℕ → List Placed) → List Placed
binary_listing place binary.And at x y = branches place at x y (λ at. one place (Push (constant.Truth false)))
binary_listing place binary.Or at x y = branches place at x (λ at. one place (Push (constant.Truth true))) y
binary_listing place binary.Add at x y = followed at x (λ at. y at ++ one place (Op operator.Add))
binary_listing place binary.Subtract at x y = followed at x (λ at. y at ++ one place (Op operator.Subtract))
binary_listing place binary.Multiply at x y = followed at x (λ at. y at ++ one place (Op operator.Multiply))
binary_listing place binary.Divide at x y = followed at x (λ at. y at ++ one place (Op operator.Divide))
binary_listing place binary.Remainder at x y = followed at x (λ at. y at ++ one place (Op operator.Remainder))
binary_listing place binary.Join at x y = followed at x (λ at. y at ++ one place (Op operator.Join))
binary_listing place binary.Less at x y = followed at x (λ at. y at ++ one place (Op operator.Less))
binary_listing place binary.LessOrEqual at x y = followed at x (λ at. y at ++ one place (Op operator.LessOrEqual))
binary_listing place binary.Greater at x y = followed at x (λ at. y at ++ one place (Op operator.Greater))
binary_listing place binary.GreaterOrEqual at x y = followed at x (λ at. y at ++ one place (Op operator.GreaterOrEqual))
binary_listing place binary.Equal at x y = followed at x (λ at. y at ++ one place (Op operator.Equal))
binary_listing place binary.NotEqual at x y = followed at x (λ at. y at ++ one place (Op operator.NotEqual))

-- the mark of an expression or an `if`
abbrev pub mark_of : Expr → Place
mark_of (Number place n) = place
mark_of (Quoted place bytes) = place
mark_of (Truth place b) = place
mark_of (Nothing place) = place
mark_of (This place) = place
mark_of (Name place name) = place
mark_of (Unary place o x) = place
mark_of (Binary place o x y) = place
mark_of (TextCall place o xs) = place
mark_of (Call place x name xs) = place
mark_of (New place l xs) = place
mark_of (Ascribe place x t) = place
mark_of (Assign place name x) = place

abbrev pub value_mark : code.Value → Place
value_mark (Plain x) = mark_of x
value_mark (If place test first second) = place

module _ (i : Inside) where
  -- the code of a form that begins at an address of its body
  unfoldable mutual
    pub listing : ℕ → Expr → List Placed
    listing at (Number place n) = one place (Push (constant.Int n))
    listing at (Quoted place bytes) = one place (Push (constant.Text (number_in i.texts bytes)))
    listing at (Truth place b) = one place (Push (constant.Truth b))
    listing at (Nothing place) = one place (Push constant.Unit)
    listing at (This place) = one place (Load 0)
    listing at (Name place name) = one place (name_code i name)
    listing at (Unary place o x) = listing at x ++ one place (Op (unary_code o))
    listing at (Binary place o x y) = binary_listing place o at (listing at x) (λ at. listing at y)
    listing at (TextCall place o xs) = values_listing at xs ++ one place (Op (text_code o))
    listing at (Call place x method xs) =
        followed at (listing at x) (λ at. values_listing at xs ++ one place (CallMethod (number_in i.methods method) (value_count xs)))
    listing at (New place l xs) = values_listing at xs ++ one place (Make l)
    listing at (Ascribe place x t) = value_listing at x
    listing at (Assign place name x) = value_listing at x ++ (placed place (Set (assigned_value i name)) ∷ one place (Push constant.Unit))

    pub value_listing : ℕ → code.Value → List Placed
    value_listing at (Plain x) = listing at x
    value_listing at (If place test first second) =
        branches place at (listing at test) (λ at. block_listing at first) (λ at. block_listing at second)

    pub values_listing : ℕ → Values → List Placed
    values_listing at none = []
    values_listing at (more x xs) = followed at (value_listing at x) (λ at. values_listing at xs)

    pub block_listing : ℕ → Block → List Placed
    block_listing at (Last x) = value_listing at x
    block_listing at (Then x rest) = followed at (value_listing at x ++ one (value_mark x) Drop) (λ at. block_listing at rest)
    block_listing at (Val place n typ x rest) = followed at (value_listing at x ++ one place (Store (val_slot i n))) (λ at. block_listing at rest)

  -- the fields' initialisers from number k on: each is set as soon as its value is there
  unfoldable pub fields_listing : ℕ → ℕ → Values → List Placed
  fields_listing at k none = []
  fields_listing at k (more x xs) =
      followed at (value_listing at x ++ one (value_mark x) (Set (field_value i k))) (λ at. fields_listing at (k + 1) xs)
