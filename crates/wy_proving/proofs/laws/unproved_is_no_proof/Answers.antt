use Rattle.wy_proving.proofs.FirstFailures.{unproved_is_no_proof}
use Rattle.wy_proving.proofs.laws.unproved_is_no_proof.Goals as goal

pub returns : goal.returns
returns c = unproved_is_no_proof
