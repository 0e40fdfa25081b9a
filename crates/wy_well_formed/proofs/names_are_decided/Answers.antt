use Rattle.wy_well_formed.proofs.NamesDecided.{names_decided}
use Rattle.wy_well_formed.proofs.names_are_decided.Goals as goal

pub returns : goal.returns
returns c = names_decided
