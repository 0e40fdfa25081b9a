use Rattle.wy_sound.proofs.GroundRange.{ground_types_stay}
use Rattle.wy_sound.proofs.laws.ground_types_stay.Goals as goal

pub returns : goal.returns
returns c = ground_types_stay
