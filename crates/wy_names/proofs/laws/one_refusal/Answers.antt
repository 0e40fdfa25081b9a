use Rattle.wy_names.proofs.OneAnswer.{one_refusal}
use Rattle.wy_names.proofs.laws.one_refusal.Goals as goal

pub returns : goal.returns
returns c = one_refusal
