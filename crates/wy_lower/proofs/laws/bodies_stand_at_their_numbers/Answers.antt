use Rattle.wy_lower.proofs.Standing.{bodies_stand}
use Rattle.wy_lower.proofs.laws.bodies_stand_at_their_numbers.Goals as goal

pub returns : goal.returns
returns c = bodies_stand
