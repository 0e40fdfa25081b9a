use Rattle.wy_layout.proofs.Filewise.{one_fault}
use Rattle.wy_layout.proofs.laws.one_fault.Goals as goal

pub returns : goal.returns
returns c = one_fault
