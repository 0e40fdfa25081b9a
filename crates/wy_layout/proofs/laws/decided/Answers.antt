use Rattle.wy_layout.proofs.Whole.{either_way}
use Rattle.wy_layout.proofs.laws.decided.Goals as goal

pub returns : goal.returns
returns c = either_way
