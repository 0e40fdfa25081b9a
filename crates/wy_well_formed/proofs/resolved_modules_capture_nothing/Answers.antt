use Rattle.wy_well_formed.proofs.NothingCaptured.{modules_capture_nothing}
use Rattle.wy_well_formed.proofs.resolved_modules_capture_nothing.Goals as goal

pub returns : goal.returns
returns c = modules_capture_nothing
