use Rattle.std.proofs.Common.{◌≡◌, take}
use Rattle.wy_policy.proofs.judging.rulings_of.Given as goal

abbrev pub invariant-loop-row : goal.invariant-loop-row
invariant-loop-row l = l.rulings ≡ take l.row-index l.rows
