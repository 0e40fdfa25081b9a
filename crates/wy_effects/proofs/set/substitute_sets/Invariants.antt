use Rattle.std.proofs.Common.{◌≡◌, take, map}
use Rattle.wy_effects.specs.EffSet.{replace}
use Rattle.wy_effects.proofs.set.substitute_sets.Given as goal

abbrev pub invariant-loop-set : goal.invariant-loop-set
invariant-loop-set l = l.out ≡ map (replace l.by) (take l.set-index l.sets)
