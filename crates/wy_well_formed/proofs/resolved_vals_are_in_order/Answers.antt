use Rattle.wy_well_formed.proofs.ValsInOrder.{vals_in_order}
use Rattle.wy_well_formed.proofs.resolved_vals_are_in_order.Goals as goal

pub returns : goal.returns
returns c = vals_in_order
