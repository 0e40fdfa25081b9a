use Rattle.wy_verify.proofs.Reported.{reported}
use Rattle.wy_verify.proofs.authority.is_reported.Goals as goal

pub returns : goal.returns
returns c = reported c.args.file.now c.requires
