use Rattle.wy_judge.proofs.Accepting.{passing_holds}
use Rattle.wy_judge.proofs.laws.passing_scopes_keep_the_rules.Goals as goal

pub returns : goal.returns
returns c = λ p k s types h. passing_holds p k s types h
