use Rattle.std.proofs.Common.{take}
use Rattle.wy_image.specs.declared.file.Row.{Row}
use Rattle.wy_text.specs.Members.{In}
use Rattle.wy_verified.specs.Ranges.{RowInRange}
use Rattle.wy_verify.proofs.ranges.rows.are_rows.Given as goal

abbrev pub invariant-loop-row : goal.invariant-loop-row
invariant-loop-row l = (x : Row) → In x (take l.row-index l.rows) → RowInRange l.standing.file.now l.standing.scope.now l.standing.owner l.standing.body.now x
