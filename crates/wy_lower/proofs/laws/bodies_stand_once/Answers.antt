use Rattle.wy_lower.proofs.BodiesOnce.{bodies_once}
use Rattle.wy_lower.proofs.laws.bodies_stand_once.Goals as goal

pub returns : goal.returns
returns c = bodies_once
