use Rattle.wy_effects.proofs.Ordering.{one_missing}
use Rattle.wy_effects.proofs.laws.one_least_missing.Goals as goal

pub returns : goal.returns
returns c = one_missing
