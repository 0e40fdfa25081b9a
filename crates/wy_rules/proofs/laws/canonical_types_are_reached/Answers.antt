use Rattle.wy_rules.proofs.Reaching.{canonical_types_are_reached}
use Rattle.wy_rules.proofs.laws.canonical_types_are_reached.Goals as goal

pub returns : goal.returns
returns c = canonical_types_are_reached
