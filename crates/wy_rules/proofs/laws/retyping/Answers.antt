use Rattle.wy_rules.proofs.Rereadings.{retyping}
use Rattle.wy_rules.proofs.laws.retyping.Goals as goal

pub returns : goal.returns
returns c = retyping
