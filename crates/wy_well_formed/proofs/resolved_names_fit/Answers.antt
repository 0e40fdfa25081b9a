use Rattle.wy_well_formed.proofs.NamesFit.{names_fit}
use Rattle.wy_well_formed.proofs.resolved_names_fit.Goals as goal

pub returns : goal.returns
returns c = names_fit
