use Rattle.wy_lower.proofs.Accepted.{accepted_is_lowerable}
use Rattle.wy_lower.proofs.laws.accepted_is_lowerable.Goals as goal

pub returns : goal.returns
returns c = accepted_is_lowerable
