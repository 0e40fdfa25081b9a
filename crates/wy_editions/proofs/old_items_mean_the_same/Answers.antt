use Rattle.wy_editions.proofs.OldItems.{mean_the_same}
use Rattle.wy_editions.proofs.old_items_mean_the_same.Goals as goal

pub returns : goal.returns
returns c = mean_the_same c.resolved_is_core.ensures c.longer_texts_change_nothing_else.ensures
