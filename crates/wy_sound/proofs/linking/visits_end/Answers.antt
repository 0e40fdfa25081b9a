use Rattle.wy_sound.proofs.LinkingEnds.{visits_end}
use Rattle.wy_sound.proofs.linking.visits_end.Goals as goal

pub returns : goal.returns
returns c = visits_end
