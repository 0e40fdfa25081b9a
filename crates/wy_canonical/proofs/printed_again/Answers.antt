use Rattle.wy_canonical.proofs.Forgetting.{printed_alike}
use Rattle.wy_canonical.proofs.printed_again.Goals as goal

pub returns : goal.returns
returns c = printed_alike
