use Rattle.wy_certify.proofs.Certificates.{one_size}
use Rattle.wy_certify.proofs.certifying.certificates_have_one_size.Goals as goal

pub returns : goal.returns
returns c = λ p one other a b. one_size p one other a b
