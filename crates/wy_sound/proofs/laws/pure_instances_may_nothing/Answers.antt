use Rattle.wy_sound.proofs.Silence.{pure_instances_may_nothing}
use Rattle.wy_sound.proofs.laws.pure_instances_may_nothing.Goals as goal

pub returns : goal.returns
returns c = pure_instances_may_nothing
