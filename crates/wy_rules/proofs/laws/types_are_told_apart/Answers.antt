use Rattle.wy_rules.proofs.SameTypes.{types_are_told_apart}
use Rattle.wy_rules.proofs.laws.types_are_told_apart.Goals as goal

pub returns : goal.returns
returns c = types_are_told_apart
