use Rattle.wy_rules.proofs.WrittenOrOwn.{reached_types_are_written_or_own}
use Rattle.wy_rules.proofs.laws.reached_types_are_written_or_own.Goals as goal

pub returns : goal.returns
returns c = reached_types_are_written_or_own
