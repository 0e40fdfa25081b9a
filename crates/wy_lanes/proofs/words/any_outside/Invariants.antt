use Rattle.std.proofs.Common.{ℕ, ◌<◌}
use Rattle.wy_lanes.specs.Words.{AllInside, row_of}
use Rattle.wy_lanes.proofs.words.any_outside.Given as goal

abbrev pub invariant-loop-row : goal.invariant-loop-row
invariant-loop-row l = (earlier : ℕ) → earlier < l.row → AllInside (row_of l.rows earlier) l.limit
