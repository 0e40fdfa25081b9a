use Rattle.wy_effects.proofs.Ordering.{respects_onward}
use Rattle.wy_effects.proofs.laws.respects_onward.Goals as goal

pub returns : goal.returns
returns c = respects_onward
