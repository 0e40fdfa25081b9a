use Rattle.std.proofs.Common.{ℕ, List, take}
use Rattle.wy_text.specs.Members.{In}
use Rattle.wy_effects.specs.EffSet.{IsSet}
use Rattle.wy_core_tests.proofs.ranges.sets_fit.Given as goal

abbrev pub invariant-loop-set : goal.invariant-loop-set
invariant-loop-set l = (s : List ℕ) → In s (take l.set-index l.sets) → IsSet l.number s
