use Rattle.wy_sound.proofs.Running.{start_preservation}
use Rattle.wy_sound.proofs.laws.start_preservation.Goals as goal

pub returns : goal.returns
returns c = start_preservation
