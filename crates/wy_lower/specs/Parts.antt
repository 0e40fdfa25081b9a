-- The expressions of a body, in evaluation order, each before its parts, but a call behind them, where its own
-- instruction stands; and what is looked for among them.
-- (docs/LANGUAGE.md, "Code of programs")
use Rattle.std.specs.Prelude.{ℕ, ◌+◌, Bool, false, ◌||◌, List, [], ◌∷◌, ◌++◌, nat_eq, bytes_eq, if◌then◌else◌}
use Rattle.wy_types.specs.Code as code
use Rattle.wy_types.specs.Code.{Expr, Number, Quoted, Truth, Nothing, This, Name, Unary, Binary, TextCall, Call, New, Ascribe, Assign, Plain, If, Values, none, more, Block, Last, Then, Val}
use Rattle.wy_types.specs.Program.{Scope, Body, Start, Init, Run}
pub use Rattle.wy_code.specs.EachOnce.{is_among, each_once_after, each_once}

abbrev mutual
  pub expr_parts : Expr → List Expr
  expr_parts (Number place n) = Number place n ∷ []
  expr_parts (Quoted place bytes) = Quoted place bytes ∷ []
  expr_parts (Truth place b) = Truth place b ∷ []
  expr_parts (Nothing place) = Nothing place ∷ []
  expr_parts (This place) = This place ∷ []
  expr_parts (Name place name) = Name place name ∷ []
  expr_parts (Unary place o x) = Unary place o x ∷ expr_parts x
  expr_parts (Binary place o x y) = Binary place o x y ∷ (expr_parts x ++ expr_parts y)
  expr_parts (TextCall place o xs) = TextCall place o xs ∷ values_parts xs
  expr_parts (Call place x name xs) = expr_parts x ++ (values_parts xs ++ Call place x name xs ∷ [])
  expr_parts (New place l xs) = New place l xs ∷ values_parts xs
  expr_parts (Ascribe place x t) = Ascribe place x t ∷ value_parts x
  expr_parts (Assign place name x) = Assign place name x ∷ value_parts x

  pub value_parts : code.Value → List Expr
  value_parts (Plain x) = expr_parts x
  value_parts (If place test first second) = expr_parts test ++ (block_parts first ++ block_parts second)

  pub values_parts : Values → List Expr
  values_parts none = []
  values_parts (more x xs) = value_parts x ++ values_parts xs

  pub block_parts : Block → List Expr
  block_parts (Last x) = value_parts x
  block_parts (Then x rest) = value_parts x ++ block_parts rest
  block_parts (Val place n typ x rest) = value_parts x ++ block_parts rest

abbrev pub start_parts : Start → List Expr
start_parts (Init values) = values_parts values
start_parts (Run block) = block_parts block

abbrev pub bodies_parts : List Body → List Expr
bodies_parts [] = []
bodies_parts (b ∷ bs) = block_parts b.block ++ bodies_parts bs

-- of a scope: of `init` or `run`, and then of its methods in order
abbrev pub scope_parts : Scope → List Expr
scope_parts s = start_parts s.start ++ bodies_parts s.bodies

abbrev pub scopes_parts : List Scope → List Expr
scopes_parts [] = []
scopes_parts (s ∷ ss) = scope_parts s ++ scopes_parts ss

------------------------------------------------------------
-- Texts, names of calls and literals among them

abbrev pub text_in : Expr → List (List ℕ)
text_in (Quoted place bytes) = bytes ∷ []
text_in _ = []

abbrev pub texts_in : List Expr → List (List ℕ)
texts_in [] = []
texts_in (e ∷ es) = text_in e ++ texts_in es

abbrev pub call_in : Expr → List (List ℕ)
call_in (Call place x name xs) = name ∷ []
call_in _ = []

-- the names of the methods that they call
abbrev pub calls_in : List Expr → List (List ℕ)
calls_in [] = []
calls_in (e ∷ es) = call_in e ++ calls_in es

abbrev pub makes_literal : ℕ → Expr → Bool
makes_literal l (New place k xs) = nat_eq k l
makes_literal l _ = false

-- one of them is the `new` of literal l
abbrev pub make_literal : ℕ → List Expr → Bool
make_literal l [] = false
make_literal l (e ∷ es) = makes_literal l e || make_literal l es

------------------------------------------------------------
-- Numbers of names and texts

abbrev pub number_from : ℕ → List ℕ → List (List ℕ) → ℕ
number_from k x [] = k
number_from k x (y ∷ ys) = if bytes_eq y x then k else number_from (k + 1) x ys

-- the number of a name or text in a list
abbrev pub number_in : List (List ℕ) → List ℕ → ℕ
number_in ys x = number_from 0 x ys
