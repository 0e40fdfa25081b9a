use Rattle.wy_proving.proofs.ReachedStand.{reached_types_stand}
use Rattle.wy_proving.proofs.laws.reached_types_stand.Goals as goal

pub returns : goal.returns
returns c = reached_types_stand
