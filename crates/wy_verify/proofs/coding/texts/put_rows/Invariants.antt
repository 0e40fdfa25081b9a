use Rattle.std.proofs.Common.{◌≡◌, take}
use Rattle.wy_code.specs.EachOnce.{each_once_after}
use Rattle.wy_verified.specs.CodeOf.{rows_texts}
use Rattle.wy_verify.proofs.coding.texts.put_rows.Given as goal

abbrev pub invariant-loop-row : goal.invariant-loop-row
invariant-loop-row l = l.table.keys ≡ each_once_after l.fn.table.keys (rows_texts (take l.row-index l.rows))
