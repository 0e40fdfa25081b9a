use Rattle.wy_policy.proofs.PolicyLaws.{not_bad, not_too_many}
use Rattle.wy_policy.proofs.laws.policies_are_good.Goals as goal

pub returns-clause-bad : goal.returns-clause-bad
returns-clause-bad c = not_bad

pub returns-clause-many : goal.returns-clause-many
returns-clause-many c = not_too_many
