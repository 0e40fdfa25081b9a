use Rattle.wy_rules.proofs.WithoutType.{scopes_hold_without_type}
use Rattle.wy_rules.proofs.laws.scopes_hold_without_type.Goals as goal

pub returns : goal.returns
returns c = scopes_hold_without_type
