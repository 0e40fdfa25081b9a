use Rattle.wy_effects.proofs.Ordering.{onward_within}
use Rattle.wy_effects.proofs.laws.within_is_transitive.Goals as goal

pub returns : goal.returns
returns c = onward_within
