use Rattle.std.proofs.Common.{◌≡◌, ◌≤◌, ◌+◌, true, drop}
use Rattle.wy_syntax.specs.Views.{expr_trees}
use Rattle.wy_syntax.specs.Nodes.{exprs_nodes}
use Rattle.wy_syntax.specs.Before.{is_before}
use Rattle.wy_nodes.proofs.counting.+expressions.Given as goal

abbrev pub invariant-exprs_nodes-loop-e : goal.invariant-exprs_nodes-loop-e
invariant-exprs_nodes-loop-e l = record {
  count : l.count + exprs_nodes (λ p. is_before p l.place) (expr_trees (drop l.e-index l.es)) ≡ exprs_nodes (λ p. is_before p l.place) (expr_trees l.es);
  within : l.count + exprs_nodes (λ p. true) (expr_trees (drop l.e-index l.es)) ≤ exprs_nodes (λ p. true) (expr_trees l.es);
}
