use Rattle.wy_link.proofs.LinesDecided.{program_decided}
use Rattle.wy_link.proofs.laws.judging_is_decided.Goals as goal

pub returns : goal.returns
returns c = λ p core. program_decided p core
