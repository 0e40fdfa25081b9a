use Rattle.wy_rules.proofs.OneEnd.{accepted_has_no_end}
use Rattle.wy_rules.proofs.laws.accepted_has_no_end.Goals as goal

pub returns : goal.returns
returns c = accepted_has_no_end
