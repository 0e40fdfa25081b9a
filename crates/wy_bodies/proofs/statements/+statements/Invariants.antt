use Rattle.std.proofs.Common.{◌≡◌, ◌≤◌, length, drop}
use Rattle.wy_syntax.specs.Views.{part_trees, stmt_trees}
use Rattle.wy_bodies.specs.Lending.{lent_within}
use Rattle.wy_bodies.specs.InSight.{sight_of, IsLonger}
use Rattle.wy_bodies.specs.Bodies.{part_values, stmts_block}
use Rattle.wy_bodies.specs.FoundBodies.{found_of, after_parts, after_stmts}
use Rattle.wy_bodies.proofs.Blocks.{joined}
use Rattle.wy_bodies.specs.ValueRows.{values_then}
use Rattle.wy_bodies.proofs.statements.+statements.Given as goal

abbrev pub invariant-part_values-loop-part : goal.invariant-part_values-loop-part
invariant-part_values-loop-part l = record {
  sight : l.variables ≡ l.initial.variables;
  found :
      after_parts (lent_within l.within) (sight_of l.outer l.initial.variables) (sight_of l.inner l.initial.variables) l.owner (found_of l.found) (part_trees (drop l.part-index l.parts)) ≡
      after_parts (lent_within l.within) (sight_of l.outer l.initial.variables) (sight_of l.inner l.initial.variables) l.owner (found_of l.initial.found) (part_trees l.parts);
  value :
      values_then l.values.items (part_values (lent_within l.within) (sight_of l.outer l.initial.variables) (found_of l.found).count (part_trees (drop l.part-index l.parts))) ≡
      part_values (lent_within l.within) (sight_of l.outer l.initial.variables) (found_of l.initial.found).count (part_trees l.parts);
}

abbrev pub invariant-block-loop-one : goal.invariant-block-loop-one
invariant-block-loop-one l = record {
  sight : IsLonger l.initial.variables l.variables;
  start : l.frame.start ≤ length l.variables;
  found :
      after_stmts (lent_within l.within) (sight_of l.frame l.variables) (found_of l.found) (stmt_trees (drop l.one-index l.statements)) ≡
      after_stmts (lent_within l.within) (sight_of l.frame l.initial.variables) (found_of l.initial.found) (stmt_trees l.statements);
  value :
      joined (lent_within l.within) l.place l.done.items (sight_of l.frame l.variables) (found_of l.found).count (stmt_trees (drop l.one-index l.statements)) ≡
      stmts_block (lent_within l.within) l.place (sight_of l.frame l.initial.variables) (found_of l.initial.found).count (stmt_trees l.statements);
}
