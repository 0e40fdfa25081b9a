use Rattle.wy_proving.proofs.AcceptedCertified.{accepted_has_canonical_certificate}
use Rattle.wy_proving.proofs.laws.accepted_has_canonical_certificate.Goals as goal

pub returns : goal.returns
returns c = accepted_has_canonical_certificate
