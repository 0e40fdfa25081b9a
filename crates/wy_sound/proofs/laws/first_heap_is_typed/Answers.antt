use Rattle.wy_sound.proofs.Running.{first_heap_is_typed}
use Rattle.wy_sound.proofs.laws.first_heap_is_typed.Goals as goal

pub returns : goal.returns
returns c = first_heap_is_typed
