use Rattle.std.proofs.Common.{◌<◌, List, length, refl, rules}
use Rattle.wy_syntax.specs.declared.statements.Stmt.{Stmt}
use Rattle.wy_syntax.specs.declared.statements.Part.{Part}
use Rattle.wy_syntax.specs.Views.{stmt_tree, stmt_trees, part_tree, part_trees}
use Rattle.wy_bodies.specs.Written.{stmt_names, stmts_names, part_names, parts_names}
use Rattle.wy_symbols.proofs.Nexts.{collected_next}
use Rattle.wy_bodies.proofs.captures.+statements.Goals as goal

pub add_stmts-loop-stmt-preserved : goal.add_stmts-loop-stmt-preserved
add_stmts-loop-stmt-preserved t c =
    let stmts = c.args.stmts.now in
    let lt : c.loop-stmt.stmt-index < length stmts = search rules in
    let x = c.stmt-item.result in
    collected_next stmts c.loop-stmt.stmt-index x lt c.stmt-item.is (λ (xs : List Stmt). stmts_names (stmt_trees xs)) c.loop-stmt.names c.add_stmt.new.names c.args.names.now (stmt_names (stmt_tree x))
    c.add_stmt.ensures refl c.loop-stmt.invariant

pub add_parts-loop-part-preserved : goal.add_parts-loop-part-preserved
add_parts-loop-part-preserved t c =
    let parts = c.args.parts.now in
    let lt : c.loop-part.part-index < length parts = search rules in
    let x = c.part-item.result in
    collected_next parts c.loop-part.part-index x lt c.part-item.is (λ (xs : List Part). parts_names (part_trees xs)) c.loop-part.names c.add_part.new.names c.args.names.now (part_names (part_tree x))
    c.add_part.ensures refl c.loop-part.invariant
