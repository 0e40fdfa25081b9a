use Rattle.wy_rules.proofs.Agreeing.{dual_of_erasure}
use Rattle.wy_rules.proofs.laws.dual_annotation.Goals as goal

pub returns : goal.returns
returns c = dual_of_erasure
