use Rattle.std.proofs.Common.{◌≡◌, take}
use Rattle.wy_effects.proofs.set.copy_sets.Given as goal

abbrev pub invariant-loop-set : goal.invariant-loop-set
invariant-loop-set l = l.out ≡ take l.set-index l.sets
