use Rattle.wy_rules.proofs.Passing.{accepted_lines_hold}
use Rattle.wy_rules.proofs.laws.accepted_lines_hold.Goals as goal

pub returns : goal.returns
returns c = accepted_lines_hold
