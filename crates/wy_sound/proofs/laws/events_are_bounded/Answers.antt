use Rattle.wy_sound.proofs.Running.{events_are_bounded}
use Rattle.wy_sound.proofs.laws.events_are_bounded.Goals as goal

pub returns : goal.returns
returns c = events_are_bounded
