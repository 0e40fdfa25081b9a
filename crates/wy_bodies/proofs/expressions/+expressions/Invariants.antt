use Rattle.std.proofs.Common.{◌≡◌, drop}
use Rattle.wy_syntax.specs.Views.{expr_trees}
use Rattle.wy_symbols.specs.Least.{noted}
use Rattle.wy_bodies.specs.Lending.{lent_within}
use Rattle.wy_bodies.specs.InSight.{sight_of}
use Rattle.wy_bodies.specs.Bodies.{expr_values}
use Rattle.wy_bodies.specs.BodyRefusals.{exprs_refusals}
use Rattle.wy_bodies.specs.ValueRows.{values_then}
use Rattle.wy_bodies.proofs.expressions.+expressions.Given as goal

abbrev pub invariant-expr_values-loop-e : goal.invariant-expr_values-loop-e
invariant-expr_values-loop-e l = record {
  value : values_then l.values.items (expr_values (lent_within l.within) (sight_of l.frame l.variables) (expr_trees (drop l.e-index l.es))) ≡ expr_values (lent_within l.within) (sight_of l.frame l.variables) (expr_trees l.es);
  noted : noted l.least (exprs_refusals (lent_within l.within) (sight_of l.frame l.variables) (expr_trees (drop l.e-index l.es))) ≡ noted l.initial.least (exprs_refusals (lent_within l.within) (sight_of l.frame l.variables) (expr_trees l.es));
}
