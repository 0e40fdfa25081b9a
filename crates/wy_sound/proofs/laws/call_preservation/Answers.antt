use Rattle.wy_sound.proofs.Running.{call_preservation}
use Rattle.wy_sound.proofs.laws.call_preservation.Goals as goal

pub returns : goal.returns
returns c = call_preservation
