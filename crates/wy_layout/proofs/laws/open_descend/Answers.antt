use Rattle.wy_layout.proofs.OpenWidths.{opens_descend}
use Rattle.wy_layout.proofs.laws.open_descend.Goals as goal

pub returns : goal.returns
returns c = opens_descend
