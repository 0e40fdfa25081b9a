use Rattle.wy_proving.proofs.ScopesRead.{plain_nodes_are_read}
use Rattle.wy_proving.proofs.laws.plain_nodes_are_read.Goals as goal

pub returns : goal.returns
returns c = plain_nodes_are_read
