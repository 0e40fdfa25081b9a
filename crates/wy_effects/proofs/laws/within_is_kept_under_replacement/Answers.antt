use Rattle.wy_effects.proofs.Ordering.{replaced_within}
use Rattle.wy_effects.proofs.laws.within_is_kept_under_replacement.Goals as goal

pub returns : goal.returns
returns c = replaced_within
