use Rattle.wy_rules.proofs.Agreeing.{annotation_of_erasure}
use Rattle.wy_rules.proofs.laws.annotation.Goals as goal

pub returns : goal.returns
returns c = annotation_of_erasure
