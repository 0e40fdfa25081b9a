use Rattle.wy_canonical.proofs.Files.{printed_spelled}
use Rattle.wy_canonical.proofs.printed_trees.Goals as goal

pub returns : goal.returns
returns c = printed_spelled
