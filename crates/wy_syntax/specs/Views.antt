-- The tree of each of the code's values.
use Rattle.std.specs.Prelude.{List, map}
use Rattle.wy_syntax.specs.declared.expressions.Expr.{Expr, fold-Expr}
use Rattle.wy_syntax.specs.declared.expressions.Expr.TheOpen.{Expr-F}
use Rattle.wy_syntax.specs.declared.statements.Part.TheOpen.{Part-F, Rhs-F, Stmt-F, Tail-F}
use Rattle.wy_syntax.specs.declared.statements.Part.TheFolds.{fold-Part, fold-Rhs, fold-Stmt, fold-Tail}
use Rattle.wy_syntax.specs.declared.statements.Rhs.{Rhs}
use Rattle.wy_syntax.specs.declared.statements.Stmt.{Stmt}
use Rattle.wy_syntax.specs.declared.statements.Part.{Part}
use Rattle.wy_syntax.specs.declared.statements.Tail.{Tail}
use Rattle.wy_syntax.specs.declared.items.Inside.{Inside}
use Rattle.wy_syntax.specs.declared.items.Item.{Item}
use Rattle.wy_syntax.specs.declared.items.Item.TheVariants as items
use Rattle.wy_syntax.specs.declared.items.Tree.{Tree}
use Rattle.wy_syntax.specs.Trees.{ExprTree, ExprTrees, number, text, yes, no, this, name, unit, negate, invert, binary, call, size, part, byte_at, byte, show, ascribe, choice, exprs_of, RhsTree, literal, branch, value, StmtTree, val, assign, run, stmts_of, PartTree, PartTrees, field, method, parts_of, TailTree, short, long, InsideTree, ItemTree, type_item, pure_item, resource_item, plain_item, program_item, StmtTrees}

-- one layer of an expression, with the trees of its parts
abbrev pub expr_step : Expr-F ExprTree → ExprTree
expr_step (Expr-F.Number v p) = number v p
expr_step (Expr-F.Text s p) = text s p
expr_step (Expr-F.True p) = yes p
expr_step (Expr-F.False p) = no p
expr_step (Expr-F.This p) = this p
expr_step (Expr-F.Name n) = name n
expr_step (Expr-F.Unit p) = unit p
expr_step (Expr-F.Negate e p) = negate e.value p
expr_step (Expr-F.Not e p) = invert e.value p
expr_step (Expr-F.Binary op a b p) = binary op a.value b.value p
expr_step (Expr-F.Call e n es) = call e.value n (exprs_of es.items)
expr_step (Expr-F.TextSize e p) = size e.value p
expr_step (Expr-F.TextPart e a b p) = part e.value a.value b.value p
expr_step (Expr-F.TextCode e i p) = byte_at e.value i.value p
expr_step (Expr-F.TextByte e p) = byte e.value p
expr_step (Expr-F.TextShow e p) = show e.value p
expr_step (Expr-F.Ascribe e t p) = ascribe e.value t p
expr_step (Expr-F.Choice c a b p) = choice c.value a.value b.value p

abbrev pub expr_tree : Expr → ExprTree
expr_tree = fold-Expr ExprTree expr_step

abbrev pub expr_trees : List Expr → ExprTrees
expr_trees es = exprs_of (map expr_tree es)

-- one layer of what statements are made of
abbrev pub part_step : Part-F PartTree RhsTree StmtTree TailTree → PartTree
part_step (Part-F.Field k n t r) = field k n t r
part_step (Part-F.Method s b) = method s b

abbrev pub rhs_step : Rhs-F PartTree RhsTree StmtTree TailTree → RhsTree
rhs_step (Rhs-F.New p ps) = literal p (parts_of ps.items)
rhs_step (Rhs-F.Branch p c a b) = branch p (expr_tree c) (stmts_of a.items) (stmts_of b.items)
rhs_step (Rhs-F.Value e) = value (expr_tree e)

abbrev pub stmt_step : Stmt-F PartTree RhsTree StmtTree TailTree → StmtTree
stmt_step (Stmt-F.Val n t r) = val n t r
stmt_step (Stmt-F.Assign n r) = assign n r
stmt_step (Stmt-F.Run r) = run r

abbrev pub tail_step : Tail-F PartTree RhsTree StmtTree TailTree → TailTree
tail_step (Tail-F.Short r) = short r
tail_step (Tail-F.Long ss) = long (stmts_of ss.items)

abbrev pub part_tree : Part → PartTree
part_tree = fold-Part PartTree RhsTree StmtTree TailTree part_step rhs_step stmt_step tail_step

abbrev pub rhs_tree : Rhs → RhsTree
rhs_tree = fold-Rhs PartTree RhsTree StmtTree TailTree part_step rhs_step stmt_step tail_step

abbrev pub stmt_tree : Stmt → StmtTree
stmt_tree = fold-Stmt PartTree RhsTree StmtTree TailTree part_step rhs_step stmt_step tail_step

abbrev pub tail_tree : Tail → TailTree
tail_tree = fold-Tail PartTree RhsTree StmtTree TailTree part_step rhs_step stmt_step tail_step

abbrev pub part_trees : List Part → PartTrees
part_trees ps = parts_of (map part_tree ps)

abbrev pub stmt_trees : List Stmt → StmtTrees
stmt_trees ss = stmts_of (map stmt_tree ss)

abbrev pub inside_tree : Inside → InsideTree
inside_tree i = record { uses = i.uses; lines = i.lines; defines = i.defines; init = i.init; parts = part_trees i.parts.items }

abbrev pub item_tree : Item → ItemTree
item_tree (items.Type t) = type_item t
item_tree (items.Pure m) = pure_item m.place m.name m.sealed (inside_tree m.inside)
item_tree (items.Resource m) = resource_item m.place m.name m.params m.sealed (inside_tree m.inside)
item_tree (items.Plain m) = plain_item m.place m.name m.params m.sealed (part_trees m.parts.items)
item_tree (items.Program g) = program_item g.place g.grants g.uses g.lines g.run g.effect (tail_tree g.body)

-- a file's items
abbrev pub file_tree : Tree → List ItemTree
file_tree t = map item_tree t.items.items
