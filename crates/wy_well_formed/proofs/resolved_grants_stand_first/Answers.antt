use Rattle.wy_well_formed.proofs.GrantsFirst.{grants_stand_first}
use Rattle.wy_well_formed.proofs.resolved_grants_stand_first.Goals as goal

pub returns : goal.returns
returns c = grants_stand_first
