use Rattle.std.proofs.Common.{◌≡◌, drop}
use Rattle.wy_judge.specs.Outcomes.{var_fault}
use Rattle.wy_judge.proofs.faults.var_fault.Given as goal

abbrev pub invariant-loop-field : goal.invariant-loop-field
invariant-loop-field l = var_fault (drop l.field-index l.fields) ≡ var_fault l.fields
