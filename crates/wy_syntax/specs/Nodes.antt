-- How many expression nodes of a tree stand before a place.
use Rattle.std.specs.Prelude.{ℕ, ◌+◌, Bool, true, false, List, [], ◌∷◌}
use Rattle.wy_text.specs.declared.fault.Place.{Place}
use Rattle.wy_syntax.specs.Trees.{ExprTree, ExprTrees, number, text, yes, no, this, name, unit, negate, invert, binary, call, size, part, byte_at, byte, show, ascribe, choice, none, more, RhsTree, literal, branch, value, StmtTree, StmtTrees, val, assign, run, no_stmts, more_stmts, PartTree, PartTrees, field, method, no_parts, more_parts, TailTree, short, long, ItemTree, type_item, pure_item, resource_item, plain_item, program_item}
use Rattle.wy_syntax.specs.Before.{is_before}

-- one for a node that is counted
abbrev pub one_if : Bool → ℕ
one_if true = 1
one_if false = 0

abbrev mutual
  -- the nodes of an expression that a test of their marks takes
  pub expr_nodes : (Place → Bool) → ExprTree → ℕ
  expr_nodes test (number v p) = one_if (test p)
  expr_nodes test (text s p) = one_if (test p)
  expr_nodes test (yes p) = one_if (test p)
  expr_nodes test (no p) = one_if (test p)
  expr_nodes test (this p) = one_if (test p)
  expr_nodes test (name n) = one_if (test n.place)
  expr_nodes test (unit p) = one_if (test p)
  expr_nodes test (negate e p) = one_if (test p) + expr_nodes test e
  expr_nodes test (invert e p) = one_if (test p) + expr_nodes test e
  expr_nodes test (binary o a b p) = one_if (test p) + expr_nodes test a + expr_nodes test b
  expr_nodes test (call e n es) = one_if (test n.place) + expr_nodes test e + exprs_nodes test es
  expr_nodes test (size e p) = one_if (test p) + expr_nodes test e
  expr_nodes test (part e a b p) = one_if (test p) + expr_nodes test e + expr_nodes test a + expr_nodes test b
  expr_nodes test (byte_at e i p) = one_if (test p) + expr_nodes test e + expr_nodes test i
  expr_nodes test (byte e p) = one_if (test p) + expr_nodes test e
  expr_nodes test (show e p) = one_if (test p) + expr_nodes test e
  expr_nodes test (ascribe e t p) = one_if (test p) + expr_nodes test e
  expr_nodes test (choice c a b p) = one_if (test p) + expr_nodes test c + expr_nodes test a + expr_nodes test b

  pub exprs_nodes : (Place → Bool) → ExprTrees → ℕ
  exprs_nodes test none = 0
  exprs_nodes test (more e es) = expr_nodes test e + exprs_nodes test es

abbrev mutual
  -- `new` and an `if` with blocks are nodes too, with their first word's place
  pub rhs_nodes : (Place → Bool) → RhsTree → ℕ
  rhs_nodes test (literal p ps) = one_if (test p) + parts_nodes test ps
  rhs_nodes test (branch p c a b) = one_if (test p) + expr_nodes test c + block_nodes test a + block_nodes test b
  rhs_nodes test (value e) = expr_nodes test e

  pub stmt_nodes : (Place → Bool) → StmtTree → ℕ
  stmt_nodes test (val x t r) = rhs_nodes test r
  stmt_nodes test (assign x r) = rhs_nodes test r
  stmt_nodes test (run r) = rhs_nodes test r

  pub block_nodes : (Place → Bool) → StmtTrees → ℕ
  block_nodes test no_stmts = 0
  block_nodes test (more_stmts s ss) = stmt_nodes test s + block_nodes test ss

  pub part_nodes : (Place → Bool) → PartTree → ℕ
  part_nodes test (field k x t r) = rhs_nodes test r
  part_nodes test (method s b) = tail_nodes test b

  pub parts_nodes : (Place → Bool) → PartTrees → ℕ
  parts_nodes test no_parts = 0
  parts_nodes test (more_parts p ps) = part_nodes test p + parts_nodes test ps

  pub tail_nodes : (Place → Bool) → TailTree → ℕ
  tail_nodes test (short r) = rhs_nodes test r
  tail_nodes test (long ss) = block_nodes test ss

abbrev pub item_nodes : (Place → Bool) → ItemTree → ℕ
item_nodes test (type_item t) = 0
item_nodes test (pure_item p n sealed inside) = parts_nodes test inside.parts
item_nodes test (resource_item p n params sealed inside) = parts_nodes test inside.parts
item_nodes test (plain_item p n params sealed parts) = parts_nodes test parts
item_nodes test (program_item p grants uses lines started effect body) = tail_nodes test body

-- the expression nodes of a file whose marks the test takes
abbrev pub file_nodes : (Place → Bool) → List ItemTree → ℕ
file_nodes test [] = 0
file_nodes test (i ∷ is) = item_nodes test i + file_nodes test is

-- all of them
abbrev pub all_nodes : List ItemTree → ℕ
all_nodes items = file_nodes (λ p. true) items

-- those whose mark stands before a place
abbrev pub count_before : List ItemTree → Place → ℕ
count_before items place = file_nodes (λ p. is_before p place) items
