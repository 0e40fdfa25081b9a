use Rattle.wy_rules.proofs.Passing.{passing_is_accepted}
use Rattle.wy_rules.proofs.laws.passing_is_accepted.Goals as goal

pub returns : goal.returns
returns c = passing_is_accepted
