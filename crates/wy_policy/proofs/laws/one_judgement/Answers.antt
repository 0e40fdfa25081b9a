use Rattle.wy_policy.proofs.JudgingLaws.{one_judgement}
use Rattle.wy_policy.proofs.laws.one_judgement.Goals as goal

pub returns : goal.returns
returns c = one_judgement
