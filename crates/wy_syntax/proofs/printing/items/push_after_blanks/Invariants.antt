use Rattle.std.proofs.Common.{drop, map}
use Rattle.wy_syntax.specs.Views.{item_tree}
use Rattle.wy_syntax.specs.Canonical.{after_blank, in_order}
use Rattle.wy_syntax.proofs.Gathered.{Follows}
use Rattle.wy_syntax.proofs.printing.items.push_after_blanks.Given as goal

abbrev pub invariant-loop-item : goal.invariant-loop-item
invariant-loop-item l = Follows l.initial.out (in_order after_blank (map item_tree l.items)) l.out (in_order after_blank (map item_tree (drop l.item-index l.items)))
