use Rattle.wy_rules.proofs.OneEnd.{one_end}
use Rattle.wy_rules.proofs.laws.one_end.Goals as goal

pub returns : goal.returns
returns c = one_end
