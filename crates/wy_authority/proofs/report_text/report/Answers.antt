use Rattle.std.proofs.Common.{◌++◌, ap, ◌∙◌}
use Rattle.wy_authority.specs.Report.{instance_text}
use Rattle.wy_authority.proofs.Reports.{instance_written}
use Rattle.wy_authority.proofs.report_text.report.Goals as goal

pub loop-row-preserved : goal.loop-row-preserved
loop-row-preserved c =
    instance_written c.loop-row.text.items c.push_instance.new.text.items _ c.args.authority.now.atoms c.as_slice-row-items.result.now c.loop-row.row-index c.row-item.result
    c.loop-row-test.true c.row-item.is
    (c.in_ok-push_instance.ensures ∙ ap (λ l. c.loop-row.text.items ++ instance_text l c.row-item.result) c.as_slice.ensures)
    c.loop-row.invariant
