use Rattle.wy_layout.proofs.Placing.{places_are}
use Rattle.wy_layout.proofs.laws.places_of_offsets.Goals as goal

pub returns : goal.returns
returns c = places_are
