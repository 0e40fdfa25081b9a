use Rattle.wy_rules.proofs.Sparing.{no_subsumption_above_another}
use Rattle.wy_rules.proofs.laws.no_subsumption_above_another.Goals as goal

pub returns : goal.returns
returns c = no_subsumption_above_another
