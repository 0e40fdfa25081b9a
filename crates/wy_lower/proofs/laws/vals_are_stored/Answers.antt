use Rattle.wy_lower.proofs.ValsStored.{has_vals}
use Rattle.wy_lower.proofs.laws.vals_are_stored.Goals as goal

pub returns : goal.returns
returns c = has_vals
