use Rattle.wy_engine.proofs.ValsInText.{vals_in_order}
use Rattle.wy_engine.proofs.laws.vals_stand_in_order.Goals as goal

pub returns : goal.returns
returns c = vals_in_order c.resolved_vals_are_in_order.ensures
