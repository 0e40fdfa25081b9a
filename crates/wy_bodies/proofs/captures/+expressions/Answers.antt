use Rattle.std.proofs.Common.{◌<◌, List, length, refl, rules}
use Rattle.wy_syntax.specs.declared.expressions.Expr.{Expr}
use Rattle.wy_syntax.specs.Views.{expr_tree, expr_trees}
use Rattle.wy_bodies.specs.Written.{expr_names, exprs_names}
use Rattle.wy_symbols.proofs.Nexts.{collected_next}
use Rattle.wy_bodies.proofs.captures.+expressions.Goals as goal

pub add_exprs-loop-e-preserved : goal.add_exprs-loop-e-preserved
add_exprs-loop-e-preserved t c =
    let es = c.args.es.now in
    let lt : c.loop-e.e-index < length es = search rules in
    collected_next es c.loop-e.e-index c.e-item.result lt c.e-item.is (λ (xs : List Expr). exprs_names (expr_trees xs)) c.loop-e.names c.add_expr.new.names c.args.names.now (expr_names (expr_tree c.e-item.result))
    c.add_expr.ensures refl c.loop-e.invariant
