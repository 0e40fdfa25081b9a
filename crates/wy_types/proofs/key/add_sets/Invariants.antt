use Rattle.std.proofs.Common.{◌≡◌, ◌++◌, drop}
use Rattle.wy_types.specs.Keys.{sets_key}
use Rattle.wy_types.proofs.key.add_sets.Given as goal

abbrev pub invariant-loop-set : goal.invariant-loop-set
invariant-loop-set l = l.out.items ++ sets_key (drop l.set-index l.sets) ≡ l.initial.out.items ++ sets_key l.sets
