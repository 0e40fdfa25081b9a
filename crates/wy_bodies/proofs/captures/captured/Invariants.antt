use Rattle.std.proofs.Common.{◌≡◌, ◌++◌}
use Rattle.wy_bodies.proofs.captures.captured.Given as goal

abbrev pub invariant-loop-variable : goal.invariant-loop-variable
invariant-loop-variable l = l.captures ++ l.variable-iterator ≡ l.initial.variable-iterator
