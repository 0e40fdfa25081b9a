use Rattle.wy_sound.proofs.Silence.{pure_instances_are_silent}
use Rattle.wy_sound.proofs.laws.pure_instances_are_silent.Goals as goal

pub returns : goal.returns
returns c = pure_instances_are_silent
