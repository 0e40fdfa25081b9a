use Rattle.wy_judge.proofs.Accepting.{failing_refutes}
use Rattle.wy_judge.proofs.laws.failing_scopes_break_a_rule.Goals as goal

pub returns : goal.returns
returns c = λ p k s fault c h keeps. failing_refutes p k s c fault h keeps.0 keeps.1 keeps.2
