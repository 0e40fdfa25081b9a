use Rattle.std.proofs.Common.{drop}
use Rattle.wy_syntax.specs.Canonical.{in_order, use_text}
use Rattle.wy_syntax.proofs.Gathered.{Follows}
use Rattle.wy_syntax.proofs.printing.items.push_uses.Given as goal

abbrev pub invariant-loop-name : goal.invariant-loop-name
invariant-loop-name l = Follows l.initial.out (in_order use_text l.uses) l.out (in_order use_text (drop l.name-index l.uses))
