use Rattle.wy_sound.proofs.Running.{never_wrong}
use Rattle.wy_sound.proofs.laws.never_wrong.Goals as goal

pub returns : goal.returns
returns c = never_wrong
