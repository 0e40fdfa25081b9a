use Rattle.wy_types.proofs.Kept.{few}
use Rattle.wy_types.proofs.laws.reached_types_are_few.Goals as goal

pub returns : goal.returns
returns c = few
