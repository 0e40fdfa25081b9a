use Rattle.std.proofs.Common.{ℕ, List, drop}
use Rattle.wy_syntax.specs.Views.{stmt_trees, part_trees}
use Rattle.wy_syntax.specs.Collected.{Collected, Adds}
use Rattle.wy_bodies.specs.Written.{stmts_names, parts_names}
use Rattle.wy_bodies.proofs.captures.+statements.Given as goal

abbrev pub invariant-add_stmts-loop-stmt : goal.invariant-add_stmts-loop-stmt
invariant-add_stmts-loop-stmt l = (end : Collected (List ℕ)) → Adds (stmts_names (stmt_trees (drop l.stmt-index l.stmts))) l.names end → Adds (stmts_names (stmt_trees l.stmts)) l.initial.names end

abbrev pub invariant-add_parts-loop-part : goal.invariant-add_parts-loop-part
invariant-add_parts-loop-part l = (end : Collected (List ℕ)) → Adds (parts_names (part_trees (drop l.part-index l.parts))) l.names end → Adds (parts_names (part_trees l.parts)) l.initial.names end
