use Rattle.wy_sound.proofs.ReportRows.{bodies_are_told}
use Rattle.wy_sound.proofs.telling.bodies_are_told.Goals as goal

pub returns : goal.returns
returns c = bodies_are_told
