use Rattle.wy_sound.proofs.LineNames.{bodies_have_line_names}
use Rattle.wy_sound.proofs.telling.bodies_have_line_names.Goals as goal

pub returns : goal.returns
returns c = bodies_have_line_names
