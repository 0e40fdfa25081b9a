use Rattle.std.proofs.Common.{◌≡◌, ◌++◌, take, drop}
use Rattle.wy_rules.specs.Acceptance.{parameters_among}
use Rattle.wy_premises.proofs.members.parameters_among.Given as goal

abbrev pub invariant-loop-i : goal.invariant-loop-i
invariant-loop-i l = take l.i l.names ++ parameters_among (drop l.i l.names) ≡ parameters_among l.names
