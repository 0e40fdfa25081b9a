use Rattle.wy_effects.proofs.Ordering.{one_within}
use Rattle.wy_effects.proofs.laws.one_atom_within.Goals as goal

pub returns : goal.returns
returns c = one_within
