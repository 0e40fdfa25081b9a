use Rattle.wy_rules.proofs.Counted.{reached_types_are_counted}
use Rattle.wy_rules.proofs.laws.reached_types_are_counted.Goals as goal

pub returns : goal.returns
returns c = reached_types_are_counted
