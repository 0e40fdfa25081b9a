use Rattle.wy_effects.proofs.Ordering.{unions_within}
use Rattle.wy_effects.proofs.laws.unions_are_within.Goals as goal

pub returns : goal.returns
returns c = unions_within
