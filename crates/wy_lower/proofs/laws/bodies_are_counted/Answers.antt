use Rattle.wy_lower.proofs.Counting.{bodies_counted}
use Rattle.wy_lower.proofs.laws.bodies_are_counted.Goals as goal

pub returns : goal.returns
returns c = bodies_counted
