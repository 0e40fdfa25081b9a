use Rattle.wy_lower.proofs.NamesInOrder.{pushed_texts}
use Rattle.wy_lower.proofs.laws.texts_are_pushed.Goals as goal

pub returns : goal.returns
returns c = pushed_texts
