use Rattle.std.proofs.Common.{rules, ◌∙◌, [], List, ◌+◌, drop, ap}
use Rattle.wy_text.proofs.Gains.{piece_short, rose_later, wrote_piece}
use Rattle.wy_text.specs.declared.fault.AtomName.{AtomName}
use Rattle.wy_authority.specs.Report.{instance_lines, instance_text, report_text}
use Rattle.wy_authority.proofs.Reports.{row_next}
use Rattle.wy_authority.proofs.report_text.write_report.Goals as goal

pub loop-row-preserved : goal.loop-row-preserved
loop-row-preserved g c =
    let state = g.S.Sink.state in
    let text = c.as_slice-in-loop-row.result.now in
    let rest = instance_lines c.args.authority.now.atoms (drop (c.loop-row.row-index + 1) c.as_slice-row-items.result.now) in
    let same = c.as_slice-in-loop-row.ensures.value ∙ c.in-Ok.ensures ∙ ap (λ (l : List AtomName). instance_text l c.row-item.result) c.as_slice.ensures in
    wrote_piece (report_text c.args.authority.now) text [] rest (state c.args.sink.now) (state c.loop-row.sink) (state c.write_all.new.sink)
    (row_next (report_text c.args.authority.now) text c.args.authority.now.atoms c.as_slice-row-items.result.now c.loop-row.row-index c.row-item.result (state c.args.sink.now) (state c.loop-row.sink) c.loop-row-test.true c.row-item.is same c.loop-row.invariant)
    (search rules)

pub returns-in-Err-clause-failed : goal.returns-in-Err-clause-failed
returns-in-Err-clause-failed g c = λ e.
    let state = g.S.Sink.state in
    let text = c.as_slice-in-loop-row.result.now in
    let rest = instance_lines c.args.authority.now.atoms (drop (c.loop-row.row-index + 1) c.as_slice-row-items.result.now) in
    let same = c.as_slice-in-loop-row.ensures.value ∙ c.in-Ok.ensures ∙ ap (λ (l : List AtomName). instance_text l c.row-item.result) c.as_slice.ensures in
    let piece = row_next (report_text c.args.authority.now) text c.args.authority.now.atoms c.as_slice-row-items.result.now c.loop-row.row-index c.row-item.result (state c.args.sink.now) (state c.loop-row.sink) c.loop-row-test.true c.row-item.is same c.loop-row.invariant in
    let cut = c.in-Err.ensures.failed e in
    let short = piece_short (report_text c.args.authority.now) text rest (state c.args.sink.now) (state c.loop-row.sink) (state c.write_all.new.sink) piece cut.0 in
    (short, rose_later (state c.args.sink.now).faults (state c.loop-row.sink).faults (state c.write_all.new.sink).faults c.loop-row.invariant.counted cut.1 cut.0.written.counted)

pub returns-in-Err-clause-starved : goal.returns-in-Err-clause-starved
returns-in-Err-clause-starved g c = λ e.
    let state = g.S.Sink.state in
    let text = c.as_slice-in-loop-row.result.now in
    let rest = instance_lines c.args.authority.now.atoms (drop (c.loop-row.row-index + 1) c.as_slice-row-items.result.now) in
    let same = c.as_slice-in-loop-row.ensures.value ∙ c.in-Ok.ensures ∙ ap (λ (l : List AtomName). instance_text l c.row-item.result) c.as_slice.ensures in
    let piece = row_next (report_text c.args.authority.now) text c.args.authority.now.atoms c.as_slice-row-items.result.now c.loop-row.row-index c.row-item.result (state c.args.sink.now) (state c.loop-row.sink) c.loop-row-test.true c.row-item.is same c.loop-row.invariant in
    piece_short (report_text c.args.authority.now) text rest (state c.args.sink.now) (state c.loop-row.sink) (state c.write_all.new.sink) piece (c.in-Err.ensures.starved e)
