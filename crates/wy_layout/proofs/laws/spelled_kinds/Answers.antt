use Rattle.wy_layout.proofs.Apart.{kind_spelled}
use Rattle.wy_layout.proofs.laws.spelled_kinds.Goals as goal

pub returns : goal.returns
returns c = kind_spelled
