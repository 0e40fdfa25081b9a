use Rattle.std.proofs.Common.{◌≡◌, ◌++◌, drop}
use Rattle.wy_authority.specs.Report.{body_lines}
use Rattle.wy_authority.proofs.report_text.push_bodies.Given as goal

abbrev pub invariant-loop-body : goal.invariant-loop-body
invariant-loop-body l = l.text.items ++ body_lines l.atoms (drop l.body-index l.bodies) ≡ l.initial.text.items ++ body_lines l.atoms l.bodies
