use Rattle.wy_rules.proofs.Rereadings.{substitution}
use Rattle.wy_rules.proofs.laws.substitution.Goals as goal

pub returns : goal.returns
returns c = substitution
