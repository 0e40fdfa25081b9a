use Rattle.wy_lower.proofs.Whole.{compiles}
use Rattle.wy_lower.proofs.laws.correct_lowering.Goals as goal

pub returns : goal.returns
returns c = compiles
