use Rattle.wy_sound.proofs.LinkingLaws.{accepted_arguments_fit}
use Rattle.wy_sound.proofs.linking.accepted_arguments_fit.Goals as goal

pub returns : goal.returns
returns c = accepted_arguments_fit
