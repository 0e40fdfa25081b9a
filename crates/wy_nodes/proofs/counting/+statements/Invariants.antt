use Rattle.std.proofs.Common.{◌≡◌, ◌≤◌, ◌+◌, true, drop}
use Rattle.wy_syntax.specs.Views.{part_trees, stmt_trees}
use Rattle.wy_syntax.specs.Nodes.{block_nodes, parts_nodes}
use Rattle.wy_syntax.specs.Before.{is_before}
use Rattle.wy_nodes.proofs.counting.+statements.Given as goal

abbrev pub invariant-block_nodes-loop-stmt : goal.invariant-block_nodes-loop-stmt
invariant-block_nodes-loop-stmt l = record {
  count : l.count + block_nodes (λ p. is_before p l.place) (stmt_trees (drop l.stmt-index l.block)) ≡ block_nodes (λ p. is_before p l.place) (stmt_trees l.block);
  within : l.count + block_nodes (λ p. true) (stmt_trees (drop l.stmt-index l.block)) ≤ block_nodes (λ p. true) (stmt_trees l.block);
}

abbrev pub invariant-parts_nodes-loop-part : goal.invariant-parts_nodes-loop-part
invariant-parts_nodes-loop-part l = record {
  count : l.count + parts_nodes (λ p. is_before p l.place) (part_trees (drop l.part-index l.parts)) ≡ parts_nodes (λ p. is_before p l.place) (part_trees l.parts);
  within : l.count + parts_nodes (λ p. true) (part_trees (drop l.part-index l.parts)) ≤ parts_nodes (λ p. true) (part_trees l.parts);
}
