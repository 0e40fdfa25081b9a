use Rattle.std.proofs.Common.{◌≡◌, drop}
use Rattle.wy_lower.specs.Counts.{some_slots_above}
use Rattle.wy_lower.proofs.limits.some_slots_above.Given as goal

abbrev pub invariant-loop-body : goal.invariant-loop-body
invariant-loop-body l = some_slots_above l.most (drop l.body-index l.bodies) ≡ some_slots_above l.most l.bodies
