use Rattle.wy_parser.proofs.FirstBad.{tree_or_bad}
use Rattle.wy_parser.proofs.laws.tree_or_first_bad_token.Goals as goal

pub returns : goal.returns
returns c = tree_or_bad
