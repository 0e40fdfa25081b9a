use Rattle.std.proofs.Common.{◌≡◌, ◌++◌, take, map}
use Rattle.wy_effects.specs.EffSet.{replace}
use Rattle.wy_link.proofs.linking.add_replaced.Given as goal

abbrev pub invariant-loop-set : goal.invariant-loop-set
invariant-loop-set l = l.sets ≡ l.initial.sets ++ map (replace l.by) (take l.set-index l.definitions)
