use Rattle.wy_rules.proofs.Agreeing.{transitive_over_tables}
use Rattle.wy_rules.proofs.laws.subtyping_is_transitive_over_tables.Goals as goal

pub returns : goal.returns
returns c = transitive_over_tables
