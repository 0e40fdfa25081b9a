use Rattle.std.proofs.Common.{drop}
use Rattle.wy_text.specs.Writing.{WritesUpTo}
use Rattle.wy_authority.specs.Report.{instance_lines, report_text}
use Rattle.wy_authority.proofs.report_text.write_report.Given as goal

abbrev pub invariant-loop-row : goal.invariant-loop-row
invariant-loop-row g l =
    WritesUpTo (report_text l.authority) (instance_lines l.authority.atoms (drop l.row-index l.row-items)) (g.S.Sink.state l.initial.sink) (g.S.Sink.state l.sink)
