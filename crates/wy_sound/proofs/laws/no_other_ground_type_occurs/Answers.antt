use Rattle.wy_sound.proofs.GroundReached.{no_other_ground_type_occurs}
use Rattle.wy_sound.proofs.laws.no_other_ground_type_occurs.Goals as goal

pub returns : goal.returns
returns c = no_other_ground_type_occurs
