use Rattle.wy_sound.proofs.Running.{starting_objects_are_typed}
use Rattle.wy_sound.proofs.laws.starting_objects_are_typed.Goals as goal

pub returns : goal.returns
returns c = starting_objects_are_typed
