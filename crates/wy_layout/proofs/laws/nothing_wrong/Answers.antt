use Rattle.wy_layout.proofs.Filewise.{lexes_none}
use Rattle.wy_layout.proofs.laws.nothing_wrong.Goals as goal

pub returns : goal.returns
returns c = lexes_none
