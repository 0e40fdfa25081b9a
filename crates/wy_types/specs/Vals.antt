-- The parts of bodies that are counted: fields, captures, values and the numbers of `val` statements.
use Rattle.std.specs.Prelude.{ℕ, ◌+◌, List, [], ◌∷◌, ◌++◌, Option, Some, None}
use Rattle.wy_types.specs.declared.code.Variable.{Variable}
use Rattle.wy_types.specs.declared.resolved.Literal.{Literal}
use Rattle.wy_types.specs.declared.resolved.Field.{Field}
use Rattle.wy_types.specs.Code.{Expr, Number, Quoted, Truth as TruthOf, Nothing as NothingOf, This, Name, Unary, Binary, TextCall, Call, New, Ascribe, Assign, Value, Plain, If, Values, none, more, Block, Last, Then, Val}
use Rattle.wy_types.specs.Program.{Scope, Body, Start, Init, Run}

abbrev pub literal_fields : Option Literal → List Field
literal_fields None = []
literal_fields (Some l) = l.fields

abbrev pub literal_captures : Option Literal → List Variable
literal_captures None = []
literal_captures (Some l) = l.captures

abbrev pub value_count : Values → ℕ
value_count none = 0
value_count (more x xs) = value_count xs + 1

-- the numbers of the `val` statements, in their order
abbrev mutual
  pub expr_vals : Expr → List ℕ
  expr_vals (Number place n) = []
  expr_vals (Quoted place bytes) = []
  expr_vals (TruthOf place b) = []
  expr_vals (NothingOf place) = []
  expr_vals (This place) = []
  expr_vals (Name place name) = []
  expr_vals (Unary place op x) = expr_vals x
  expr_vals (Binary place op x y) = expr_vals x ++ expr_vals y
  expr_vals (TextCall place op xs) = values_vals xs
  expr_vals (Call place x name xs) = expr_vals x ++ values_vals xs
  expr_vals (New place l xs) = values_vals xs
  expr_vals (Ascribe place x t) = value_vals x
  expr_vals (Assign place name x) = value_vals x

  pub value_vals : Value → List ℕ
  value_vals (Plain x) = expr_vals x
  value_vals (If place test first second) = expr_vals test ++ (block_vals first ++ block_vals second)

  pub values_vals : Values → List ℕ
  values_vals none = []
  values_vals (more x xs) = value_vals x ++ values_vals xs

  pub block_vals : Block → List ℕ
  block_vals (Last x) = value_vals x
  block_vals (Then x b) = value_vals x ++ block_vals b
  block_vals (Val place n typ x b) = n ∷ (value_vals x ++ block_vals b)

abbrev pub start_vals : Start → List ℕ
start_vals (Init values) = values_vals values
start_vals (Run block) = block_vals block

abbrev pub bodies_vals : List Body → List ℕ
bodies_vals [] = []
bodies_vals (b ∷ bs) = block_vals b.block ++ bodies_vals bs

-- all `val` statements of a scope, by their numbers
abbrev pub scope_vals : Scope → List ℕ
scope_vals s = start_vals s.start ++ bodies_vals s.bodies
