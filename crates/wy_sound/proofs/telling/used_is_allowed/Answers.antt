use Rattle.wy_sound.proofs.UsedAllowed.{used_is_allowed}
use Rattle.wy_sound.proofs.telling.used_is_allowed.Goals as goal

pub returns : goal.returns
returns c = used_is_allowed
