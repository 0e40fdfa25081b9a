use Rattle.std.proofs.Common.{◌≡◌}
use Rattle.wy_lanes.proofs.Blocks.{united_to}
use Rattle.wy_lanes.proofs.words.union_singly.Given as goal

abbrev pub invariant-loop-at : goal.invariant-loop-at
invariant-loop-at l = l.into ≡ united_to l.at l.initial.into l.from
