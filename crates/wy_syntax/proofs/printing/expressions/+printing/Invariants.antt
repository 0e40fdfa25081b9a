use Rattle.std.proofs.Common.{drop}
use Rattle.wy_syntax.specs.Views.{expr_trees}
use Rattle.wy_syntax.specs.Canonical.{more_arguments_text}
use Rattle.wy_syntax.proofs.Gathered.{Follows}
use Rattle.wy_syntax.proofs.printing.expressions.+printing.Given as goal

abbrev pub invariant-push_arguments-loop-argument : goal.invariant-push_arguments-loop-argument
invariant-push_arguments-loop-argument l = Follows l.initial.out (more_arguments_text (expr_trees l.others)) l.out (more_arguments_text (expr_trees (drop l.argument-index l.others)))
