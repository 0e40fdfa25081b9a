use Rattle.std.proofs.Common.{◌≡◌, length}
use Rattle.wy_link.proofs.checking.empty_lists.Given as goal

abbrev pub invariant-loop-scope : goal.invariant-loop-scope
invariant-loop-scope l = length l.lists.items ≡ l.scope
