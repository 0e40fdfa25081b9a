use Rattle.wy_lower.proofs.Accepted.{accepted_is_never_stuck}
use Rattle.wy_lower.proofs.laws.accepted_is_never_stuck.Goals as goal

pub returns : goal.returns
returns c = accepted_is_never_stuck
