use Rattle.std.proofs.Common.{◌≡◌, take}
use Rattle.wy_lower.proofs.instructions.listed.Given as goal

abbrev pub invariant-loop-placed : goal.invariant-loop-placed
invariant-loop-placed l = l.list ≡ take l.placed-index l.items.items
