use Rattle.wy_effects.proofs.Ordering.{unbounded_within}
use Rattle.wy_effects.proofs.laws.unbounded_within_is_inclusion.Goals as goal

pub returns : goal.returns
returns c = unbounded_within
