use Rattle.wy_policy.proofs.PolicyLaws.{bad_is_few, one_bad}
use Rattle.wy_policy.proofs.laws.one_bad_line.Goals as goal

pub returns-clause-one : goal.returns-clause-one
returns-clause-one c = one_bad

pub returns-clause-few : goal.returns-clause-few
returns-clause-few c = bad_is_few
