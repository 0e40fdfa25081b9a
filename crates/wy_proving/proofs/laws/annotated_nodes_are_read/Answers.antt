use Rattle.wy_proving.proofs.ScopesRead.{annotated_nodes_are_read}
use Rattle.wy_proving.proofs.laws.annotated_nodes_are_read.Goals as goal

pub returns : goal.returns
returns c = annotated_nodes_are_read
