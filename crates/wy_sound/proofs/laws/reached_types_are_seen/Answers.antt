use Rattle.wy_sound.proofs.ReachedSeen.{reached_types_are_seen}
use Rattle.wy_sound.proofs.laws.reached_types_are_seen.Goals as goal

pub returns : goal.returns
returns c = reached_types_are_seen
