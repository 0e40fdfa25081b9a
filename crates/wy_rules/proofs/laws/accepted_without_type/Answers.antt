use Rattle.wy_rules.proofs.AcceptedWithoutType.{accepted_without_type}
use Rattle.wy_rules.proofs.laws.accepted_without_type.Goals as goal

pub returns : goal.returns
returns c = accepted_without_type
