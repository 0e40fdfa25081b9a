-- The trees of expressions, right sides, statements, parts and bodies, by their parts.
use Rattle.std.proofs.Common.{◌≡◌, ◌∙◌, ap, sym}
use Rattle.wy_text.specs.declared.fault.Place.{Place}
use Rattle.wy_syntax.specs.declared.types.Name.{Name}
use Rattle.wy_syntax.specs.declared.expressions.Expr.{Expr}
use Rattle.wy_syntax.specs.declared.expressions.Expr.TheVariants as exprs
use Rattle.wy_syntax.specs.declared.expressions.Expr.TheOpen.{Expr-F}
use Rattle.wy_syntax.specs.declared.expressions.Expr.TheFolds.{fold-roll-Expr}
use Rattle.wy_syntax.specs.declared.expressions.Operator.{Operator}
use Rattle.wy_syntax.specs.declared.statements.Rhs.TheVariants as sides
use Rattle.wy_syntax.specs.declared.statements.Stmt.TheVariants as stmts
use Rattle.wy_syntax.specs.declared.statements.Tail.TheVariants as tails
use Rattle.wy_syntax.specs.declared.statements.Part.TheVariants as parts
use Rattle.wy_syntax.specs.declared.statements.Part.TheOpen.{Part-F, Rhs-F, Stmt-F, Tail-F}
use Rattle.wy_syntax.specs.declared.statements.Part.TheFolds.{fold-roll-Part, fold-roll-Rhs, fold-roll-Stmt, fold-roll-Tail}
use Rattle.wy_syntax.specs.Trees.{ExprTree, RhsTree, StmtTree, PartTree, TailTree, ascribe, binary, byte_at, call, choice, invert, negate, part, literal, branch, value, val, assign, run, field, method, short, long}
use Rattle.wy_syntax.specs.Views.{expr_step, expr_tree, expr_trees, part_step, part_tree, part_trees, rhs_step, rhs_tree, stmt_step, stmt_tree, stmt_trees, tail_step, tail_tree}

pub expr_tree-Binary : (o : Operator) (a : _) (b : _) (p : Place) → expr_tree (exprs.Binary o a b p) ≡ binary o (expr_tree a.value) (expr_tree b.value) p
expr_tree-Binary o a b p = ap expr_tree (sym (exprs.rolls-Binary o a b p)) ∙ fold-roll-Expr ExprTree expr_step (Expr-F.Binary o a b p)

pub expr_tree-Call : (e : _) (n : Name) (es : _) → expr_tree (exprs.Call e n es) ≡ call (expr_tree e.value) n (expr_trees es.items)
expr_tree-Call e n es = ap expr_tree (sym (exprs.rolls-Call e n es)) ∙ fold-roll-Expr ExprTree expr_step (Expr-F.Call e n es)

pub expr_tree-TextPart : (a : _) (b : _) (c : _) (p : Place) → expr_tree (exprs.TextPart a b c p) ≡ part (expr_tree a.value) (expr_tree b.value) (expr_tree c.value) p
expr_tree-TextPart a b c p = ap expr_tree (sym (exprs.rolls-TextPart a b c p)) ∙ fold-roll-Expr ExprTree expr_step (Expr-F.TextPart a b c p)

pub expr_tree-TextCode : (a : _) (b : _) (p : Place) → expr_tree (exprs.TextCode a b p) ≡ byte_at (expr_tree a.value) (expr_tree b.value) p
expr_tree-TextCode a b p = ap expr_tree (sym (exprs.rolls-TextCode a b p)) ∙ fold-roll-Expr ExprTree expr_step (Expr-F.TextCode a b p)

pub expr_tree-Choice : (a : _) (b : _) (c : _) (p : Place) → expr_tree (exprs.Choice a b c p) ≡ choice (expr_tree a.value) (expr_tree b.value) (expr_tree c.value) p
expr_tree-Choice a b c p = ap expr_tree (sym (exprs.rolls-Choice a b c p)) ∙ fold-roll-Expr ExprTree expr_step (Expr-F.Choice a b c p)

pub expr_tree-Negate : (e : _) (p : Place) → expr_tree (exprs.Negate e p) ≡ negate (expr_tree e.value) p
expr_tree-Negate e p = ap expr_tree (sym (exprs.rolls-Negate e p)) ∙ fold-roll-Expr ExprTree expr_step (Expr-F.Negate e p)

pub expr_tree-Not : (e : _) (p : Place) → expr_tree (exprs.Not e p) ≡ invert (expr_tree e.value) p
expr_tree-Not e p = ap expr_tree (sym (exprs.rolls-Not e p)) ∙ fold-roll-Expr ExprTree expr_step (Expr-F.Not e p)

pub expr_tree-Ascribe : (e : _) (t : _) (p : Place) → expr_tree (exprs.Ascribe e t p) ≡ ascribe (expr_tree e.value) t p
expr_tree-Ascribe e t p = ap expr_tree (sym (exprs.rolls-Ascribe e t p)) ∙ fold-roll-Expr ExprTree expr_step (Expr-F.Ascribe e t p)

pub rhs_tree-Branch : (p : Place) (c : Expr) (a : _) (b : _) → rhs_tree (sides.Branch p c a b) ≡ branch p (expr_tree c) (stmt_trees a.items) (stmt_trees b.items)
rhs_tree-Branch p c a b = ap rhs_tree (sym (sides.rolls-Branch p c a b)) ∙ fold-roll-Rhs PartTree RhsTree StmtTree TailTree part_step rhs_step stmt_step tail_step (Rhs-F.Branch p c a b)

pub rhs_tree-New : (p : Place) (ps : _) → rhs_tree (sides.New p ps) ≡ literal p (part_trees ps.items)
rhs_tree-New p ps = ap rhs_tree (sym (sides.rolls-New p ps)) ∙ fold-roll-Rhs PartTree RhsTree StmtTree TailTree part_step rhs_step stmt_step tail_step (Rhs-F.New p ps)

pub rhs_tree-Value : (e : _) → rhs_tree (sides.Value e) ≡ value (expr_tree e)
rhs_tree-Value e = ap rhs_tree (sym (sides.rolls-Value e)) ∙ fold-roll-Rhs PartTree RhsTree StmtTree TailTree part_step rhs_step stmt_step tail_step (Rhs-F.Value e)

pub stmt_tree-Val : (n : _) (t : _) (r : _) → stmt_tree (stmts.Val n t r) ≡ val n t (rhs_tree r)
stmt_tree-Val n t r = ap stmt_tree (sym (stmts.rolls-Val n t r)) ∙ fold-roll-Stmt PartTree RhsTree StmtTree TailTree part_step rhs_step stmt_step tail_step (Stmt-F.Val n t r)

pub stmt_tree-Assign : (n : _) (r : _) → stmt_tree (stmts.Assign n r) ≡ assign n (rhs_tree r)
stmt_tree-Assign n r = ap stmt_tree (sym (stmts.rolls-Assign n r)) ∙ fold-roll-Stmt PartTree RhsTree StmtTree TailTree part_step rhs_step stmt_step tail_step (Stmt-F.Assign n r)

pub stmt_tree-Run : (r : _) → stmt_tree (stmts.Run r) ≡ run (rhs_tree r)
stmt_tree-Run r = ap stmt_tree (sym (stmts.rolls-Run r)) ∙ fold-roll-Stmt PartTree RhsTree StmtTree TailTree part_step rhs_step stmt_step tail_step (Stmt-F.Run r)

pub tail_tree-Short : (r : _) → tail_tree (tails.Short r) ≡ short (rhs_tree r)
tail_tree-Short r = ap tail_tree (sym (tails.rolls-Short r)) ∙ fold-roll-Tail PartTree RhsTree StmtTree TailTree part_step rhs_step stmt_step tail_step (Tail-F.Short r)

pub tail_tree-Long : (ss : _) → tail_tree (tails.Long ss) ≡ long (stmt_trees ss.items)
tail_tree-Long ss = ap tail_tree (sym (tails.rolls-Long ss)) ∙ fold-roll-Tail PartTree RhsTree StmtTree TailTree part_step rhs_step stmt_step tail_step (Tail-F.Long ss)

pub part_tree-Field : (k : _) (n : _) (t : _) (r : _) → part_tree (parts.Field k n t r) ≡ field k n t (rhs_tree r)
part_tree-Field k n t r = ap part_tree (sym (parts.rolls-Field k n t r)) ∙ fold-roll-Part PartTree RhsTree StmtTree TailTree part_step rhs_step stmt_step tail_step (Part-F.Field k n t r)

pub part_tree-Method : (s : _) (b : _) → part_tree (parts.Method s b) ≡ method s (tail_tree b)
part_tree-Method s b = ap part_tree (sym (parts.rolls-Method s b)) ∙ fold-roll-Part PartTree RhsTree StmtTree TailTree part_step rhs_step stmt_step tail_step (Part-F.Method s b)
