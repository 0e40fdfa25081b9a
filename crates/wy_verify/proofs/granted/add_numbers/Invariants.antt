use Rattle.std.proofs.Common.{◌≡◌, ◌+◌, ◌++◌, drop}
use Rattle.wy_verify.specs.Judging.{operation_numbers}
use Rattle.wy_verify.proofs.granted.add_numbers.Given as goal

abbrev pub invariant-loop-at : goal.invariant-loop-at
invariant-loop-at l = l.granted ++ operation_numbers (l.first + l.at) (drop l.at l.names) ≡ l.fn.granted ++ operation_numbers l.first l.names
