use Rattle.wy_lower.proofs.Whole.{never_stuck}
use Rattle.wy_lower.proofs.laws.never_stuck_where_never_wrong.Goals as goal

pub returns : goal.returns
returns c = never_stuck
