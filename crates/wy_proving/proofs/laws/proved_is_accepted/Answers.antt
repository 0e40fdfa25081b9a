use Rattle.wy_proving.proofs.ProvedAccepted.{proved_is_accepted}
use Rattle.wy_proving.proofs.laws.proved_is_accepted.Goals as goal

pub returns : goal.returns
returns c = proved_is_accepted
