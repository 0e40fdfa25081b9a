use Rattle.std.proofs.Common.{◌≡◌, drop, map}
use Rattle.wy_symbols.specs.Least.{noted}
use Rattle.wy_heads.specs.CycleRefusals.{cycle_refusals}
use Rattle.wy_symbols.specs.Lent.{module_tree}
use Rattle.wy_heads.proofs.leading.note_reached.Given as goal

abbrev pub invariant-loop-i : goal.invariant-loop-i
invariant-loop-i l =
    noted l.least (cycle_refusals l.reached (map module_tree l.modules) l.i (map module_tree (drop l.i l.views))) ≡
    noted l.initial.least (cycle_refusals l.reached (map module_tree l.modules) 0 (map module_tree l.modules))
