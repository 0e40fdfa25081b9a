-- The plain form of each value that holds a list or a block.
use Rattle.std.proofs.Common.{◌≡◌, ℕ, List, Vec, Box, Global, refl, ap, ap₂, ◌∙◌}
use Rattle.wy_text.specs.declared.fault.Place.{Place}
use Rattle.wy_types.specs.declared.code.TextOperator.{TextOperator}
use Rattle.wy_types.specs.declared.code.Expr as e
use Rattle.wy_types.specs.declared.code.Expr.TheBlock as eb
use Rattle.wy_types.specs.declared.code.Expr.TheVariants as ev
use Rattle.wy_types.specs.declared.code.Value as v
use Rattle.wy_types.specs.declared.code.Value.TheVariants as vv
use Rattle.wy_types.specs.declared.code.Block.{Block}
use Rattle.wy_types.specs.Code as plain
use Rattle.wy_types.specs.View.{expr_of, value_of, row_values, row_block, stmt_block, values_of, stmts_block, block_of}

row_values_are : (n : _) (k : e.Row_of-Value n) → row_values k ≡ values_of (e.items-the_row-Value n k)
row_values_are n e.end_of-Value = refl
row_values_are n (e.more_of-Value x xs) = ap (plain.more (value_of x)) (row_values_are _ xs)

row_block_is : (n : _) (k : v.Row_of-Stmt n) (rest : plain.Block) → row_block k rest ≡ stmts_block (v.items-the_row-Stmt n k) rest
row_block_is n v.end_of-Stmt rest = refl
row_block_is n (v.more_of-Stmt x xs) rest = ap (stmt_block x) (row_block_is _ xs rest)

values_row : (xs : Vec v.Value Global) → row_values (eb.hidden-the_row-Value-0 xs) ≡ values_of xs.items
values_row xs = row_values_are _ (eb.hidden-the_row-Value-0 xs) ∙ ap values_of (e.items_hidden-the_row-Value-0 xs)

pub expr_text_call : (place : Place) (op : TextOperator) (xs : Vec v.Value Global) → expr_of (ev.TextCall place op xs) ≡ plain.TextCall place op (values_of xs.items)
expr_text_call place op xs = ap (plain.TextCall place op) (values_row xs)

pub expr_call : (place : Place) (x : Box e.Expr Global) (name : List ℕ) (xs : Vec v.Value Global) → expr_of (ev.Call place x name xs) ≡ plain.Call place (expr_of x.value) name (values_of xs.items)
expr_call place x name xs = ap (plain.Call place (expr_of x.value) name) (values_row xs)

pub expr_new : (place : Place) (literal : ℕ) (xs : Vec v.Value Global) → expr_of (ev.New place literal xs) ≡ plain.New place literal (values_of xs.items)
expr_new place literal xs = ap (plain.New place literal) (values_row xs)

block_row : (b : Block) → row_block (eb.hidden-the_row-Stmt-1 b.statements) (plain.Last (value_of b.last.value)) ≡ block_of b
block_row b =
    row_block_is _ (eb.hidden-the_row-Stmt-1 b.statements) (plain.Last (value_of b.last.value)) ∙
    ap (λ l. stmts_block l (plain.Last (value_of b.last.value))) (v.items_hidden-the_row-Stmt-1 b.statements)

pub value_if : (place : Place) (test : Box e.Expr Global) (first second : Block) → value_of (vv.If place test first second) ≡ plain.If place (expr_of test.value) (block_of first) (block_of second)
value_if place test first second = ap₂ (plain.If place (expr_of test.value)) (block_row first) (block_row second)
