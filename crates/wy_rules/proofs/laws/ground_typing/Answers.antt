use Rattle.wy_rules.proofs.Grounding.{ground_typing}
use Rattle.wy_rules.proofs.laws.ground_typing.Goals as goal

pub returns : goal.returns
returns c = ground_typing
