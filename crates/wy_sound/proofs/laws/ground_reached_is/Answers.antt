use Rattle.wy_sound.proofs.GroundReached.{ground_reached_is}
use Rattle.wy_sound.proofs.laws.ground_reached_is.Goals as goal

pub returns : goal.returns
returns c = ground_reached_is
