use Rattle.wy_meaning.proofs.Answering.{takes_what_fits}
use Rattle.wy_meaning.proofs.laws.fitting_answers_are_taken.Goals as goal

pub returns : goal.returns
returns c = takes_what_fits
