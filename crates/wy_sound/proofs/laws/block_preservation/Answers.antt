use Rattle.wy_sound.proofs.Running.{block_preservation}
use Rattle.wy_sound.proofs.laws.block_preservation.Goals as goal

pub returns : goal.returns
returns c = block_preservation
