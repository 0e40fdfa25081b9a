use Rattle.wy_effects.proofs.Ordering.{widened_exactly}
use Rattle.wy_effects.proofs.laws.within_the_widened.Goals as goal

pub returns : goal.returns
returns c = widened_exactly
