use Rattle.wy_judge.proofs.ScopesDecided.{scope_decided}
use Rattle.wy_judge.proofs.laws.scopes_are_decided.Goals as goal

pub returns : goal.returns
returns c = λ p core k s there. scope_decided p core k s there
