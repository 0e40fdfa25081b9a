use Rattle.wy_sound.proofs.ReportRows.{instances_are_told}
use Rattle.wy_sound.proofs.telling.instances_are_told.Goals as goal

pub returns : goal.returns
returns c = instances_are_told
