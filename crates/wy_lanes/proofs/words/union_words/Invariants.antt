use Rattle.std.proofs.Common.{◌≡◌, ◌*◌}
use Rattle.wy_lanes.proofs.Blocks.{united_to}
use Rattle.wy_lanes.proofs.words.union_words.Given as goal

abbrev pub invariant-loop-block : goal.invariant-loop-block
invariant-loop-block l = l.into ≡ united_to (8 * l.block) l.initial.into l.from
