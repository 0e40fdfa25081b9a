use Rattle.wy_rules.proofs.LeastTypes.{canonical_types_are_least}
use Rattle.wy_rules.proofs.laws.canonical_types_are_least.Goals as goal

pub returns : goal.returns
returns c = canonical_types_are_least
