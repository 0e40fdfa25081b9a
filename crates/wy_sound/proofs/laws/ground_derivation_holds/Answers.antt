use Rattle.wy_sound.proofs.GroundCanonical.{ground_derivation_holds}
use Rattle.wy_sound.proofs.laws.ground_derivation_holds.Goals as goal

pub returns : goal.returns
returns c = ground_derivation_holds
