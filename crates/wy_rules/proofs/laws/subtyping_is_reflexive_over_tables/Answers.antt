use Rattle.wy_rules.proofs.Agreeing.{reflexive_over_tables}
use Rattle.wy_rules.proofs.laws.subtyping_is_reflexive_over_tables.Goals as goal

pub returns : goal.returns
returns c = reflexive_over_tables
