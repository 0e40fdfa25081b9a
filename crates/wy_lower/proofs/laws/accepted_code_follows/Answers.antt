use Rattle.wy_lower.proofs.Accepted.{accepted_code_follows}
use Rattle.wy_lower.proofs.laws.accepted_code_follows.Goals as goal

pub returns : goal.returns
returns c = accepted_code_follows
