use Rattle.wy_well_formed.proofs.MadeOnce.{makes_once}
use Rattle.wy_well_formed.proofs.resolved_makes_once.Goals as goal

pub returns : goal.returns
returns c = makes_once
