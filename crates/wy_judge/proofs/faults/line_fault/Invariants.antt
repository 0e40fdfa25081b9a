use Rattle.std.proofs.Common.{◌≡◌, drop}
use Rattle.wy_judge.specs.Outcomes.{line_fault}
use Rattle.wy_judge.proofs.faults.line_fault.Given as goal

abbrev pub invariant-loop-name : goal.invariant-loop-name
invariant-loop-name l = line_fault (drop l.name-index l.names) ≡ line_fault l.names
