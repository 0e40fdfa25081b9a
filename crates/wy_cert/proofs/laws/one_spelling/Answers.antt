use Rattle.wy_spelling.proofs.Wholes.{one_spelling}
use Rattle.wy_cert.specs.Spelled.{IsCertificateSpelled, certificate_bytes}
use Rattle.wy_cert.proofs.Certificates.{certificates_apart}
use Rattle.wy_cert.proofs.laws.one_spelling.Goals as goal

pub returns : goal.returns
returns c = one_spelling IsCertificateSpelled certificate_bytes certificates_apart
