use Rattle.wy_canonical.proofs.OwnWords.{trees_words}
use Rattle.wy_canonical.proofs.trees_have_words.Goals as goal

pub returns : goal.returns
returns c = trees_words
