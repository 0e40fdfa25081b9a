use Rattle.std.proofs.Common.{drop}
use Rattle.wy_syntax.specs.Canonical.{after_commas}
use Rattle.wy_syntax.proofs.Gathered.{Follows}
use Rattle.wy_syntax.proofs.printing.pieces.push_after_commas.Given as goal

abbrev pub invariant-loop-item : goal.invariant-loop-item
invariant-loop-item g l = Follows l.initial.out (after_commas g.X.Printed.text l.items) l.out (after_commas g.X.Printed.text (drop l.item-index l.items))
