use Rattle.std.proofs.Common.{refl}
use Rattle.wy_lanes.specs.Numbers.{numbers_of}
use Rattle.wy_lanes.proofs.number_set.NumberSet.empty.Goals as goal

pub returns : goal.returns
unfolding numbers_of
returns c = refl
