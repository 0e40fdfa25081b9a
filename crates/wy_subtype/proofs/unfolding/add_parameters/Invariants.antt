use Rattle.std.proofs.Common.{◌≡◌, ◌++◌, drop}
use Rattle.wy_subtype.specs.Unfolding.{param_pairs}
use Rattle.wy_subtype.proofs.unfolding.add_parameters.Given as goal

abbrev pub invariant-loop-i : goal.invariant-loop-i
invariant-loop-i l = l.into ++ param_pairs l.name l.i (drop l.i l.left) (drop l.i l.right) ≡ l.initial.into ++ param_pairs l.name 0 l.left l.right
