use Rattle.wy_rules.proofs.Agreeing.{replaced_tables_agree}
use Rattle.wy_rules.proofs.laws.replaced_tables_agree.Goals as goal

pub returns : goal.returns
returns c = replaced_tables_agree
