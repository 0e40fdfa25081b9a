use Rattle.wy_lanes.proofs.NumbersOf.{NoneBelow}
use Rattle.wy_lanes.proofs.number_set.first_bit.Given as goal

abbrev pub invariant-loop-at : goal.invariant-loop-at
invariant-loop-at l = NoneBelow l.words l.from l.at
