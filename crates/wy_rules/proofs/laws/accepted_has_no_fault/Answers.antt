use Rattle.wy_rules.proofs.Unrefused.{accepted_has_no_fault}
use Rattle.wy_rules.proofs.laws.accepted_has_no_fault.Goals as goal

pub returns : goal.returns
returns c = accepted_has_no_fault
