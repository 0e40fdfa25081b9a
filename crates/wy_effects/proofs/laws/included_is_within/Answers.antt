use Rattle.wy_effects.proofs.Ordering.{same_within}
use Rattle.wy_effects.proofs.laws.included_is_within.Goals as goal

pub returns : goal.returns
returns c = same_within
