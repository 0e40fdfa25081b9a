use Rattle.std.proofs.Common.{◌≡◌, drop}
use Rattle.wy_types.specs.Ground.{abstract_set}
use Rattle.wy_premises.proofs.members.abstract_set.Given as goal

abbrev pub invariant-loop-i : goal.invariant-loop-i
invariant-loop-i l = abstract_set l.name (drop l.i l.members) (drop l.i l.sets) ≡ abstract_set l.name l.members l.sets
