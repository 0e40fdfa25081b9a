use Rattle.wy_well_formed.proofs.NamesAreOrdinary.{names_are_ordinary}
use Rattle.wy_well_formed.proofs.resolved_names_are_ordinary.Goals as goal

pub returns : goal.returns
returns c = names_are_ordinary
