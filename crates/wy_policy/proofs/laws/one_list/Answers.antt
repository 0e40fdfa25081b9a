use Rattle.wy_policy.proofs.PolicyLaws.{one_list}
use Rattle.wy_policy.proofs.laws.one_list.Goals as goal

pub returns : goal.returns
returns c = one_list
