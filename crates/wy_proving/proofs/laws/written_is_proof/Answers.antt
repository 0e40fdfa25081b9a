use Rattle.wy_proving.proofs.AcceptedCertified.{written_is_proof}
use Rattle.wy_proving.proofs.laws.written_is_proof.Goals as goal

pub returns : goal.returns
returns c = written_is_proof
