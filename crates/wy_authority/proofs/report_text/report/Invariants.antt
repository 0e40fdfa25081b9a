use Rattle.std.proofs.Common.{◌≡◌, ◌++◌, drop}
use Rattle.wy_authority.specs.Report.{instance_lines}
use Rattle.wy_authority.proofs.report_text.report.Given as goal

abbrev pub invariant-loop-row : goal.invariant-loop-row
invariant-loop-row l = l.text.items ++ instance_lines l.authority.atoms (drop l.row-index l.row-items) ≡ instance_lines l.authority.atoms l.row-items
