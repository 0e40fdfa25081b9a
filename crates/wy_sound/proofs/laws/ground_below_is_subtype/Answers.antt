use Rattle.wy_sound.proofs.GroundRange.{ground_below_is_subtype}
use Rattle.wy_sound.proofs.laws.ground_below_is_subtype.Goals as goal

pub returns : goal.returns
returns c = ground_below_is_subtype
