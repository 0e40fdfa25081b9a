use Rattle.wy_rules.proofs.Holding.{accepted_scopes_hold}
use Rattle.wy_rules.proofs.laws.accepted_scopes_hold.Goals as goal

pub returns : goal.returns
returns c = accepted_scopes_hold
