use Rattle.std.proofs.Common.{take}
use Rattle.wy_lanes.specs.Words.{AllInside}
use Rattle.wy_lanes.proofs.words.includes_singly.Given as goal

abbrev pub invariant-loop-at : goal.invariant-loop-at
invariant-loop-at l = AllInside (take l.at l.inner) (take l.at l.outer)
