-- The object literals that a scope makes: the numbers of those after each `new`, in their order.
use Rattle.std.specs.Prelude.{ℕ, List, [], ◌∷◌, ◌++◌}
use Rattle.wy_types.specs.Code.{Expr, Number, Quoted, Truth, Nothing, This, Name, Unary, Binary, TextCall, Call, New, Ascribe, Assign, Value, Plain, If, Values, none, more, Block, Last, Then, Val}
use Rattle.wy_types.specs.Program.{Scope, Body, Start, Init, Run}

abbrev mutual
  pub expr_news : Expr → List ℕ
  expr_news (Number place n) = []
  expr_news (Quoted place bytes) = []
  expr_news (Truth place b) = []
  expr_news (Nothing place) = []
  expr_news (This place) = []
  expr_news (Name place name) = []
  expr_news (Unary place op x) = expr_news x
  expr_news (Binary place op x y) = expr_news x ++ expr_news y
  expr_news (TextCall place op xs) = values_news xs
  expr_news (Call place x name xs) = expr_news x ++ values_news xs
  expr_news (New place l xs) = l ∷ values_news xs
  expr_news (Ascribe place x t) = value_news x
  expr_news (Assign place name x) = value_news x

  pub value_news : Value → List ℕ
  value_news (Plain x) = expr_news x
  value_news (If place test first second) = expr_news test ++ (block_news first ++ block_news second)

  pub values_news : Values → List ℕ
  values_news none = []
  values_news (more x xs) = value_news x ++ values_news xs

  pub block_news : Block → List ℕ
  block_news (Last x) = value_news x
  block_news (Then x b) = value_news x ++ block_news b
  block_news (Val place n typ x b) = value_news x ++ block_news b

abbrev pub start_news : Start → List ℕ
start_news (Init values) = values_news values
start_news (Run block) = block_news block

abbrev pub bodies_news : List Body → List ℕ
bodies_news [] = []
bodies_news (b ∷ bs) = block_news b.block ++ bodies_news bs

-- all literals that a scope makes, in its start and in its bodies
abbrev pub scope_news : Scope → List ℕ
scope_news s = start_news s.start ++ bodies_news s.bodies
