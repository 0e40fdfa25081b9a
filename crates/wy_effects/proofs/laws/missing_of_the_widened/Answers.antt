use Rattle.wy_effects.proofs.Ordering.{missing_exactly}
use Rattle.wy_effects.proofs.laws.missing_of_the_widened.Goals as goal

pub returns : goal.returns
returns c = missing_exactly
