use Rattle.std.proofs.Common.{drop}
use Rattle.wy_syntax.specs.Canonical.{in_order}
use Rattle.wy_syntax.proofs.Gathered.{Follows}
use Rattle.wy_syntax.proofs.printing.pieces.push_each.Given as goal

abbrev pub invariant-loop-item : goal.invariant-loop-item
invariant-loop-item g l = Follows l.initial.out (in_order g.X.Printed.text l.items) l.out (in_order g.X.Printed.text (drop l.item-index l.items))
