use Rattle.wy_judge.proofs.Deciding.{accepted_or_ends}
use Rattle.wy_judge.proofs.laws.decided_programs_have_an_end.Goals as goal

pub returns : goal.returns
returns c = λ p d. accepted_or_ends p d
