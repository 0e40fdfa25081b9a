use Rattle.wy_canonical.proofs.Files.{spelled_or_limited}
use Rattle.wy_canonical.proofs.printed_or_limited.Goals as goal

pub returns : goal.returns
returns c = spelled_or_limited
