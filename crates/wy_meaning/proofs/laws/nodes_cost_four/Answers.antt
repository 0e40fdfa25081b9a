use Rattle.wy_meaning.proofs.Costs.{meaning_cheap}
use Rattle.wy_meaning.proofs.laws.nodes_cost_four.Goals as goal

pub returns : goal.returns
returns c n p s tapes = meaning_cheap p s n tapes
