use Rattle.std.proofs.Common.{take, ◌*◌}
use Rattle.wy_lanes.specs.Words.{AllInside}
use Rattle.wy_lanes.proofs.words.includes_words.Given as goal

abbrev pub invariant-loop-block : goal.invariant-loop-block
invariant-loop-block l = AllInside (take (8 * l.block) l.inner) (take (8 * l.block) l.outer)
