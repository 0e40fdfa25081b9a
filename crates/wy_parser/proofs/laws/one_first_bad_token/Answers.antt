use Rattle.wy_parser.proofs.FirstBad.{one_bad}
use Rattle.wy_parser.proofs.laws.one_first_bad_token.Goals as goal

pub returns : goal.returns
returns c = one_bad
