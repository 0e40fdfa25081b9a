use Rattle.wy_sound.proofs.GroundRange.{ground_types_are_few}
use Rattle.wy_sound.proofs.laws.ground_types_are_few.Goals as goal

pub returns : goal.returns
returns c = ground_types_are_few
