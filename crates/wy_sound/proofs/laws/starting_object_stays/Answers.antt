use Rattle.wy_sound.proofs.Running.{starting_object_stays}
use Rattle.wy_sound.proofs.laws.starting_object_stays.Goals as goal

pub returns : goal.returns
returns c = starting_object_stays
