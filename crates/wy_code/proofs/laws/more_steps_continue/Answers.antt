use Rattle.wy_code.proofs.Continuing as continuing
use Rattle.wy_code.proofs.laws.more_steps_continue.Goals as goal

pub returns : goal.returns
returns c = continuing.more_steps_continue
