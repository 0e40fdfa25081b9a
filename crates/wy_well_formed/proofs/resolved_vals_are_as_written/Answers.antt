use Rattle.wy_well_formed.proofs.ValsAsWritten.{vals_as_written}
use Rattle.wy_well_formed.proofs.resolved_vals_are_as_written.Goals as goal

pub returns : goal.returns
returns c = vals_as_written
