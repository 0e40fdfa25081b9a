use Rattle.wy_proving.proofs.CertifiedNodes.{nodes_are_read}
use Rattle.wy_proving.proofs.laws.nodes_are_read.Goals as goal

pub returns : goal.returns
returns c = nodes_are_read
