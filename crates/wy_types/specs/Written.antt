-- The types that are written in bodies, in the order in which they stand.
use Rattle.std.specs.Prelude.{List, [], ◌∷◌, ◌++◌, Option, Some, None}
use Rattle.wy_types.specs.declared.types.TypeRef.{TypeRef}
use Rattle.wy_types.specs.declared.code.Stmt as s
use Rattle.wy_types.specs.View.{value_of}
use Rattle.wy_types.specs.Code.{Expr, Number, Quoted, Truth, Nothing, This, Name, Unary, Binary, TextCall, Call, New, Ascribe, Assign, Value, Plain, If, Values, none, more, Block, Last, Then, Val}

abbrev pub written_types : Option TypeRef → List TypeRef
written_types None = []
written_types (Some t) = t ∷ []

abbrev mutual
  pub expr_types : Expr → List TypeRef
  expr_types (Number place n) = []
  expr_types (Quoted place bytes) = []
  expr_types (Truth place b) = []
  expr_types (Nothing place) = []
  expr_types (This place) = []
  expr_types (Name place name) = []
  expr_types (Unary place op x) = expr_types x
  expr_types (Binary place op x y) = expr_types x ++ expr_types y
  expr_types (TextCall place op xs) = values_types xs
  expr_types (Call place x name xs) = expr_types x ++ values_types xs
  expr_types (New place literal xs) = values_types xs
  expr_types (Ascribe place x t) = value_types x ++ t ∷ []
  expr_types (Assign place name x) = value_types x

  pub value_types : Value → List TypeRef
  value_types (Plain x) = expr_types x
  value_types (If place test first second) = expr_types test ++ (block_types first ++ block_types second)

  pub values_types : Values → List TypeRef
  values_types none = []
  values_types (more x xs) = value_types x ++ values_types xs

  pub block_types : Block → List TypeRef
  block_types (Last x) = value_types x
  block_types (Then x b) = value_types x ++ block_types b
  block_types (Val place number typ x b) = written_types typ ++ (value_types x ++ block_types b)

abbrev pub stmt_types : s.Stmt → List TypeRef
stmt_types (s.Val place number typ x) = written_types typ ++ value_types (value_of x)
stmt_types (s.Do x) = value_types (value_of x)
