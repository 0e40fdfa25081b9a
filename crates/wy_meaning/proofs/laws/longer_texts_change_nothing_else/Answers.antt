use Rattle.wy_meaning.proofs.Widening.{means_the_same}
use Rattle.wy_meaning.proofs.laws.longer_texts_change_nothing_else.Goals as goal

pub returns : goal.returns
returns c = means_the_same
