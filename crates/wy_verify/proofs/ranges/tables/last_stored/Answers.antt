use Rattle.std.proofs.Common.{sym, ap, ◌∙◌}
use Rattle.std.specs.Prelude.{max}
use Rattle.wy_verify.specs.RangeParts.{slot_stored_by}
use Rattle.wy_verify.proofs.RangeNeeds.{stored_more}
use Rattle.wy_verify.proofs.ranges.tables.last_stored.Goals as goal

pub loop-row-preserved : goal.loop-row-preserved
loop-row-preserved c =
    let s = stored_more c.args.rows.now c.loop-row.row-index c.row-item.result c.loop-row-test.true c.row-item.is in
    c.greater-last.ensures ∙ ap (λ n. max n c.loop-row.last) c.slot_stored_by.ensures ∙ ap (λ n. max (slot_stored_by c.row-item.result.instruction) n) c.loop-row.invariant ∙ sym s
