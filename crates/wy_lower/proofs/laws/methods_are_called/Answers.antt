use Rattle.wy_lower.proofs.NamesInOrder.{called_methods}
use Rattle.wy_lower.proofs.laws.methods_are_called.Goals as goal

pub returns : goal.returns
returns c = called_methods
