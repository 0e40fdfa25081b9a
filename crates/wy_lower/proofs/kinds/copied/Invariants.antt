use Rattle.std.proofs.Common.{◌≡◌, take}
use Rattle.wy_lower.proofs.kinds.copied.Given as goal

abbrev pub invariant-loop-method : goal.invariant-loop-method
invariant-loop-method l = l.all ≡ take l.method-index l.methods
