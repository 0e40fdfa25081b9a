use Rattle.std.proofs.Common.{◌≡◌, drop}
use Rattle.wy_effects.specs.Widened.{widened_from, widened_set}
use Rattle.wy_effects.proofs.set.EffSet.widened.Given as goal

abbrev pub invariant-loop-atom : goal.invariant-loop-atom
invariant-loop-atom l = widened_from l.atom (drop l.atom l.bounds) l.wide ≡ widened_set l.bounds l.self
