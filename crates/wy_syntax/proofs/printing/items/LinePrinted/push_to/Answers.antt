use Rattle.wy_syntax.proofs.Gathered.{before}
use Rattle.wy_syntax.proofs.printing.items.LinePrinted.push_to.Goals as goal

pub returns-in-Import : goal.returns-in-Import
returns-in-Import c = rw c.in-Import.is (before (before (simp c.as_slice-in-Import.ensures at c.push_made-in-Import.ensures) c.push_set.ensures) c.push.ensures)
