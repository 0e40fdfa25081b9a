use Rattle.wy_proving.proofs.AcceptedCertified.{what_is_asked_stands}
use Rattle.wy_proving.proofs.laws.what_is_asked_stands.Goals as goal

pub returns : goal.returns
returns c = what_is_asked_stands
