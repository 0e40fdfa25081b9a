-- The bodies of the code's own types as plain data.
use Rattle.std.specs.Prelude.{List, [], ◌∷◌}
use Rattle.wy_types.specs.declared.code.Expr as e
use Rattle.wy_types.specs.declared.code.Value as v
use Rattle.wy_types.specs.declared.code.Stmt as s
use Rattle.wy_types.specs.declared.code.Block.{Block}
use Rattle.wy_types.specs.Code as plain

abbrev mutual
  pub expr_of : e.Expr → plain.Expr
  expr_of (e.Int place n) = plain.Number place n
  expr_of (e.Text place bytes) = plain.Quoted place bytes
  expr_of (e.Bool place b) = plain.Truth place b
  expr_of (e.Unit place) = plain.Nothing place
  expr_of (e.This place) = plain.This place
  expr_of (e.Name place name) = plain.Name place name
  expr_of (e.Unary' place op p x) = plain.Unary place op (expr_of x)
  expr_of (e.Binary' place op p x q y) = plain.Binary place op (expr_of x) (expr_of y)
  expr_of (e.TextCall' place op shape xs) = plain.TextCall place op (row_values xs)
  expr_of (e.Call' place p x name shape xs) = plain.Call place (expr_of x) name (row_values xs)
  expr_of (e.New' place literal shape xs) = plain.New place literal (row_values xs)
  expr_of (e.Ascribe' place p x t) = plain.Ascribe place (value_of x) t
  expr_of (e.Assign' place name p x) = plain.Assign place name (value_of x)

  pub value_of : v.Value → plain.Value
  value_of (v.Plain x) = plain.Plain (expr_of x)
  value_of (v.If' place p test sx xs px x sy ys py y) =
      plain.If place (expr_of test) (row_block xs (plain.Last (value_of x))) (row_block ys (plain.Last (value_of y)))

  pub row_values : {m : _} → e.Row_of-Value m → plain.Values
  row_values e.end_of-Value = plain.none
  row_values (e.more_of-Value x xs) = plain.more (value_of x) (row_values xs)

  -- statements in front of a block
  pub row_block : {m : _} → v.Row_of-Stmt m → plain.Block → plain.Block
  row_block v.end_of-Stmt rest = rest
  row_block (v.more_of-Stmt x xs) rest = stmt_block x (row_block xs rest)

  pub stmt_block : s.Stmt → plain.Block → plain.Block
  stmt_block (s.Val place number typ x) rest = plain.Val place number typ (value_of x) rest
  stmt_block (s.Do x) rest = plain.Then (value_of x) rest

abbrev pub values_of : List v.Value → plain.Values
values_of [] = plain.none
values_of (x ∷ xs) = plain.more (value_of x) (values_of xs)

abbrev pub stmts_block : List s.Stmt → plain.Block → plain.Block
stmts_block [] rest = rest
stmts_block (x ∷ xs) rest = stmt_block x (stmts_block xs rest)

abbrev pub block_of : Block → plain.Block
block_of b = stmts_block b.statements.items (plain.Last (value_of b.last.value))
