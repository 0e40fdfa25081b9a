use Rattle.wy_proving.proofs.FirstFailures.{one_unproved}
use Rattle.wy_proving.proofs.laws.one_unproved.Goals as goal

pub returns : goal.returns
returns c = one_unproved
