use Rattle.wy_parser.proofs.FirstBad.{no_tree}
use Rattle.wy_parser.proofs.laws.no_tree_with_bad_token.Goals as goal

pub returns : goal.returns
returns c = no_tree
