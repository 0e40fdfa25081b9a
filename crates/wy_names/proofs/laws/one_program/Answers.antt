use Rattle.wy_names.proofs.OneAnswer.{one_program}
use Rattle.wy_names.proofs.laws.one_program.Goals as goal

pub returns : goal.returns
returns c = one_program
