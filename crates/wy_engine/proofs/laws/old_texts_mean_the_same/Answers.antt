use Rattle.wy_engine.proofs.OldTexts.{mean_the_same}
use Rattle.wy_engine.proofs.laws.old_texts_mean_the_same.Goals as goal

pub returns : goal.returns
returns c = mean_the_same c.old_items_mean_the_same.ensures
