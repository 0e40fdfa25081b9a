use Rattle.wy_rules.proofs.Rereadings.{erasure}
use Rattle.wy_rules.proofs.laws.erasure.Goals as goal

pub returns : goal.returns
returns c = erasure
