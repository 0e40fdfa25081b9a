use Rattle.wy_rules.proofs.Agreeing.{kept_under_replacement}
use Rattle.wy_rules.proofs.laws.subtyping_is_kept_under_replacement.Goals as goal

pub returns : goal.returns
returns c = kept_under_replacement
