use Rattle.std.proofs.Common.{◌≡◌, drop}
use Rattle.wy_types.specs.Ground.{defined_set}
use Rattle.wy_premises.proofs.members.defined_set.Given as goal

abbrev pub invariant-loop-member : goal.invariant-loop-member
invariant-loop-member l = defined_set l.name (drop l.member-index l.defined) l.sets ≡ defined_set l.name l.defined l.sets
