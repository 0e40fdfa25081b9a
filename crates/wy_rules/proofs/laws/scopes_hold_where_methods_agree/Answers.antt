use Rattle.wy_rules.proofs.Transferring.{scopes_hold_where_methods_agree}
use Rattle.wy_rules.proofs.laws.scopes_hold_where_methods_agree.Goals as goal

pub returns : goal.returns
returns c = scopes_hold_where_methods_agree
