use Rattle.wy_link.proofs.LinesDecided.{lines_decided}
use Rattle.wy_link.proofs.laws.lines_are_decided.Goals as goal

pub returns : goal.returns
returns c = λ p core plain. lines_decided p core plain
