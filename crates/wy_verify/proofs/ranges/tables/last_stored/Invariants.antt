use Rattle.std.proofs.Common.{◌≡◌, take}
use Rattle.wy_verify.specs.RangeParts.{last_stored}
use Rattle.wy_verify.proofs.ranges.tables.last_stored.Given as goal

abbrev pub invariant-loop-row : goal.invariant-loop-row
invariant-loop-row l = l.last ≡ last_stored (take l.row-index l.rows)
