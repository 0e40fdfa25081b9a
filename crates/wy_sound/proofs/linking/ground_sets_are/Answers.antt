use Rattle.wy_sound.proofs.LinkingLaws.{ground_sets_are}
use Rattle.wy_sound.proofs.linking.ground_sets_are.Goals as goal

pub returns : goal.returns
returns c = ground_sets_are
