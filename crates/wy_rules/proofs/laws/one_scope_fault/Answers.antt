use Rattle.wy_rules.proofs.OneEnd.{one_scope_fault}
use Rattle.wy_rules.proofs.laws.one_scope_fault.Goals as goal

pub returns : goal.returns
returns c = one_scope_fault
