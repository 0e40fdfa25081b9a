use Rattle.wy_names.proofs.OneAnswer.{resolved_or_refused}
use Rattle.wy_names.proofs.laws.resolved_or_refused.Goals as goal

pub returns : goal.returns
returns c = resolved_or_refused
