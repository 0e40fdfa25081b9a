use Rattle.wy_code.proofs.Continuing as continuing
use Rattle.wy_code.proofs.laws.few_steps_are_taken.Goals as goal

pub returns : goal.returns
returns c = continuing.few_steps_are_taken
