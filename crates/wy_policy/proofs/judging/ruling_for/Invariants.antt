use Rattle.std.proofs.Common.{◌≡◌, drop}
use Rattle.wy_policy.specs.Allowed.{row_for}
use Rattle.wy_policy.proofs.judging.ruling_for.Given as goal

abbrev pub invariant-loop-ruling : goal.invariant-loop-ruling
invariant-loop-ruling l = row_for l.rulings l.name ≡ row_for (drop l.ruling-index l.rulings) l.name
