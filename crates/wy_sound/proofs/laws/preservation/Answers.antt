use Rattle.wy_sound.proofs.Running.{preservation}
use Rattle.wy_sound.proofs.laws.preservation.Goals as goal

pub returns : goal.returns
returns c = preservation
