use Rattle.wy_sound.proofs.LineNames.{instances_have_line_names}
use Rattle.wy_sound.proofs.telling.instances_have_line_names.Goals as goal

pub returns : goal.returns
returns c = instances_have_line_names
