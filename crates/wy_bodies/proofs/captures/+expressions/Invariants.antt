use Rattle.std.proofs.Common.{ℕ, List, drop}
use Rattle.wy_syntax.specs.Views.{expr_trees}
use Rattle.wy_syntax.specs.Collected.{Collected, Adds}
use Rattle.wy_bodies.specs.Written.{exprs_names}
use Rattle.wy_bodies.proofs.captures.+expressions.Given as goal

abbrev pub invariant-add_exprs-loop-e : goal.invariant-add_exprs-loop-e
invariant-add_exprs-loop-e l = (end : Collected (List ℕ)) → Adds (exprs_names (expr_trees (drop l.e-index l.es))) l.names end → Adds (exprs_names (expr_trees l.es)) l.initial.names end
