-- The trees of ascriptions, of right sides with one part, and of statements, fields and methods.
use Rattle.std.proofs.Common.{◌≡◌, ◌∙◌, ap, sym, Option}
use Rattle.wy_text.specs.declared.fault.Place.{Place}
use Rattle.wy_syntax.specs.declared.types.Name.{Name}
use Rattle.wy_syntax.specs.declared.types.TypeUse.{TypeUse}
use Rattle.wy_syntax.specs.declared.expressions.Expr.{Expr}
use Rattle.wy_syntax.specs.declared.expressions.Expr.TheVariants as exprs
use Rattle.wy_syntax.specs.declared.expressions.Expr.TheOpen.{Expr-F}
use Rattle.wy_syntax.specs.declared.expressions.Expr.TheFolds.{fold-roll-Expr}
use Rattle.wy_syntax.specs.declared.statements.Rhs.TheVariants as sides
use Rattle.wy_syntax.specs.declared.statements.FieldKind.{FieldKind}
use Rattle.wy_syntax.specs.declared.statements.Rhs.{Rhs}
use Rattle.wy_syntax.specs.declared.statements.Tail.{Tail}
use Rattle.wy_syntax.specs.declared.statements.Stmt.TheVariants as stmts
use Rattle.wy_syntax.specs.declared.statements.Part.TheVariants as parts
use Rattle.wy_syntax.specs.declared.statements.Part.TheOpen.{Part-F, Rhs-F, Stmt-F}
use Rattle.wy_syntax.specs.declared.statements.Part.TheFolds.{fold-roll-Part, fold-roll-Rhs, fold-roll-Stmt}
use Rattle.wy_syntax.specs.declared.types.Signature.{Signature}
use Rattle.wy_syntax.specs.Trees.{ascribe, ExprTree, RhsTree, StmtTree, PartTree, TailTree, value, val, assign, run, field, method}
use Rattle.wy_syntax.specs.Views.{expr_step, expr_tree, part_step, rhs_step, rhs_tree, part_tree, stmt_step, stmt_tree, tail_step, tail_tree}

pub expr_tree-Ascribe : (e : _) (u : TypeUse) (p : Place) → expr_tree (exprs.Ascribe e u p) ≡ ascribe (expr_tree e.value) u p
expr_tree-Ascribe e u p = ap expr_tree (sym (exprs.rolls-Ascribe e u p)) ∙ fold-roll-Expr ExprTree expr_step (Expr-F.Ascribe e u p)

pub rhs_tree-Value : (e : Expr) → rhs_tree (sides.Value e) ≡ value (expr_tree e)
rhs_tree-Value e = ap rhs_tree (sym (sides.rolls-Value e)) ∙ fold-roll-Rhs PartTree RhsTree StmtTree TailTree part_step rhs_step stmt_step tail_step (Rhs-F.Value e)

pub stmt_tree-Val : (n : Name) (u : Option TypeUse) (r : Rhs) → stmt_tree (stmts.Val n u r) ≡ val n u (rhs_tree r)
stmt_tree-Val n u r = ap stmt_tree (sym (stmts.rolls-Val n u r)) ∙ fold-roll-Stmt PartTree RhsTree StmtTree TailTree part_step rhs_step stmt_step tail_step (Stmt-F.Val n u r)

pub stmt_tree-Assign : (n : Name) (r : Rhs) → stmt_tree (stmts.Assign n r) ≡ assign n (rhs_tree r)
stmt_tree-Assign n r = ap stmt_tree (sym (stmts.rolls-Assign n r)) ∙ fold-roll-Stmt PartTree RhsTree StmtTree TailTree part_step rhs_step stmt_step tail_step (Stmt-F.Assign n r)

pub stmt_tree-Run : (r : Rhs) → stmt_tree (stmts.Run r) ≡ run (rhs_tree r)
stmt_tree-Run r = ap stmt_tree (sym (stmts.rolls-Run r)) ∙ fold-roll-Stmt PartTree RhsTree StmtTree TailTree part_step rhs_step stmt_step tail_step (Stmt-F.Run r)

pub part_tree-Field : (k : FieldKind) (n : Name) (u : TypeUse) (r : Rhs) → part_tree (parts.Field k n u r) ≡ field k n u (rhs_tree r)
part_tree-Field k n u r = ap part_tree (sym (parts.rolls-Field k n u r)) ∙ fold-roll-Part PartTree RhsTree StmtTree TailTree part_step rhs_step stmt_step tail_step (Part-F.Field k n u r)

pub part_tree-Method : (g : Signature) (b : Tail) → part_tree (parts.Method g b) ≡ method g (tail_tree b)
part_tree-Method g b = ap part_tree (sym (parts.rolls-Method g b)) ∙ fold-roll-Part PartTree RhsTree StmtTree TailTree part_step rhs_step stmt_step tail_step (Part-F.Method g b)
