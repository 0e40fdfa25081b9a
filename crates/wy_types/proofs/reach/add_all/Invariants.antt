use Rattle.std.proofs.Common.{take}
use Rattle.wy_types.specs.Gathering.{IsGathered}
use Rattle.wy_types.proofs.reach.add_all.Given as goal

abbrev pub invariant-loop-t : goal.invariant-loop-t
invariant-loop-t l = IsGathered l.initial.seen (take l.t-index l.types) l.seen
