use Rattle.std.proofs.Common.{◌≡◌, ◌++◌, drop}
use Rattle.wy_bounds.specs.Worklist.{param_entries}
use Rattle.wy_bounds.proofs.reaching.add_parameters.Given as goal

abbrev pub invariant-loop-i : goal.invariant-loop-i
invariant-loop-i l = l.into.items ++ param_entries l.at l.positive l.name l.i (drop l.i l.params) ≡ l.initial.into.items ++ param_entries l.at l.positive l.name 0 l.params
