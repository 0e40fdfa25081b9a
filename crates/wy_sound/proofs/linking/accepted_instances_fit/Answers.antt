use Rattle.wy_sound.proofs.LinkingLaws.{accepted_instances_fit}
use Rattle.wy_sound.proofs.linking.accepted_instances_fit.Goals as goal

pub returns : goal.returns
returns c = accepted_instances_fit
