use Rattle.wy_editions.proofs.OldItems.{accepted_alike, judged_alike}
use Rattle.wy_editions.proofs.old_items_are_judged_alike.Goals as goal

pub returns-clause-within : goal.returns-clause-within
returns-clause-within c = judged_alike c.resolved_is_core.ensures

pub returns-clause-beyond : goal.returns-clause-beyond
returns-clause-beyond c = accepted_alike c.resolved_is_core.ensures
