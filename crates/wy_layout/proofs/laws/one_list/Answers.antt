use Rattle.wy_layout.proofs.Filewise.{one_list}
use Rattle.wy_layout.proofs.laws.one_list.Goals as goal

pub returns : goal.returns
returns c = one_list
