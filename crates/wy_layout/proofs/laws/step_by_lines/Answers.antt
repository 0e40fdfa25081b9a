use Rattle.wy_layout.proofs.OpenWidths.{step_stands}
use Rattle.wy_layout.proofs.laws.step_by_lines.Goals as goal

pub returns : goal.returns
returns c = step_stands
