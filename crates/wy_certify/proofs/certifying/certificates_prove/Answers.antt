use Rattle.wy_certify.proofs.Certificates.{certificate_proves}
use Rattle.wy_certify.proofs.certifying.certificates_prove.Goals as goal

pub returns : goal.returns
returns c = λ p core accepted cert h. certificate_proves p core accepted cert h
