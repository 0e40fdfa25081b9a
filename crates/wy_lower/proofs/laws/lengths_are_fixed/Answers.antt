use Rattle.wy_lower.proofs.Sizes.{block_length}
use Rattle.wy_lower.proofs.laws.lengths_are_fixed.Goals as goal

pub returns : goal.returns
returns c = block_length
