use Rattle.wy_engine.proofs.OldTexts.{accepted_alike, judged_alike, reported_are_passed}
use Rattle.wy_engine.proofs.laws.old_texts_are_judged_alike.Goals as goal

pub returns-clause-alike : goal.returns-clause-alike
returns-clause-alike c = judged_alike c.old_items_are_judged_alike.ensures.within

pub returns-clause-beyond : goal.returns-clause-beyond
returns-clause-beyond c = accepted_alike c.old_items_are_judged_alike.ensures.beyond

pub returns-clause-today : goal.returns-clause-today
returns-clause-today c = reported_are_passed
