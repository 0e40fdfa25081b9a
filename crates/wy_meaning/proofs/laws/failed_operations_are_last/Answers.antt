use Rattle.wy_meaning.proofs.Ending.{meaning_ends}
use Rattle.wy_meaning.proofs.laws.failed_operations_are_last.Goals as goal

pub returns : goal.returns
returns c n p s tapes = meaning_ends n p s tapes
