use Rattle.wy_verify.proofs.CodingLists.{rows_more}
use Rattle.wy_verify.proofs.coding.texts.put_rows.Goals as goal

pub loop-row-preserved : goal.loop-row-preserved
loop-row-preserved c =
    rows_more c.args.rows.now c.loop-row.row-index c.row-item.result c.loop-row-test.true c.row-item.is
    c.args.table.now.keys c.loop-row.table.keys c.put_instruction.new.table.keys c.loop-row.invariant c.in_ok-put_instruction.ensures
