use Rattle.std.proofs.Common.{◌-◌}
use Rattle.wy_syntax.specs.Canonical.{indented}
use Rattle.wy_syntax.proofs.Gathered.{Follows}
use Rattle.wy_syntax.proofs.printing.pieces.push_indentation.Given as goal

abbrev pub invariant-loop : goal.invariant-loop
invariant-loop l = Follows l.initial.out (indented l.indents) l.out (indented (l.indents - l.counter))
