use Rattle.std.proofs.Common.{arith, subst}
use Rattle.wy_lanes.specs.Numbers.{IsAscending}
use Rattle.wy_lanes.proofs.NumbersOf.{IsAscending-numbers_of}
use Rattle.wy_lanes.proofs.number_set.NumberSet.is_ascending.Goals as goal

pub returns : goal.returns
returns c = subst (IsAscending 512) c.self.view_is (IsAscending-numbers_of c.self.inside.words 512 (omega (arith, c.self.told)))
