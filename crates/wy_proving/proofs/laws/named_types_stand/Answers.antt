use Rattle.wy_proving.proofs.AcceptedCertified.{named_types_stand}
use Rattle.wy_proving.proofs.laws.named_types_stand.Goals as goal

pub returns : goal.returns
returns c = named_types_stand
