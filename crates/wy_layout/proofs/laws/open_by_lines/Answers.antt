use Rattle.wy_layout.proofs.OpenWidths.{open_is}
use Rattle.wy_layout.proofs.laws.open_by_lines.Goals as goal

pub returns : goal.returns
returns c = open_is
