use Rattle.std.proofs.Common.{◌≡◌, take}
use Rattle.wy_effects.proofs.set.same_sets.Given as goal

abbrev pub invariant-loop-i : goal.invariant-loop-i
invariant-loop-i l = take l.i l.a ≡ take l.i l.b
