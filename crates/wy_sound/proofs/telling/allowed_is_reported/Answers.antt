use Rattle.wy_sound.proofs.ReportRows.{allowed_is_reported}
use Rattle.wy_sound.proofs.telling.allowed_is_reported.Goals as goal

pub returns : goal.returns
returns c = allowed_is_reported
