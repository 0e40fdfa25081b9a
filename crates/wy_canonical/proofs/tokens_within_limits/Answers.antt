use Rattle.wy_canonical.proofs.Files.{lexed_within}
use Rattle.wy_canonical.proofs.tokens_within_limits.Goals as goal

pub returns : goal.returns
returns c = lexed_within
