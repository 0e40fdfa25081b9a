use Rattle.wy_spelling.proofs.Wholes.{one_bad_place}
use Rattle.wy_cert.specs.Spelled.{IsCertificateSpelled, certificate_bytes}
use Rattle.wy_cert.proofs.laws.one_bad_place.Goals as goal

pub returns : goal.returns
returns c = one_bad_place IsCertificateSpelled certificate_bytes
