use Rattle.wy_well_formed.proofs.FittingBodies.{parts_fit, body_fits, no_own_bodies}
use Rattle.wy_well_formed.proofs.Resolved.{resolved_core}
use Rattle.wy_well_formed.proofs.resolved_is_core.Goals as goal

pub returns : goal.returns
returns c = resolved_core parts_fit body_fits no_own_bodies
