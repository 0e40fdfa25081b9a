use Rattle.wy_well_formed.proofs.MainHasNoFields.{main_has_no_fields}
use Rattle.wy_well_formed.proofs.resolved_main_has_no_fields.Goals as goal

pub returns : goal.returns
returns c = main_has_no_fields
