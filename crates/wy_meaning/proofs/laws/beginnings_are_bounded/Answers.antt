use Rattle.wy_meaning.proofs.Bounding.{bounds_beginnings}
use Rattle.wy_meaning.proofs.laws.beginnings_are_bounded.Goals as goal

pub returns : goal.returns
returns c = bounds_beginnings
