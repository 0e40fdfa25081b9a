use Rattle.std.proofs.Common.{◌≡◌, replicate, None}
use Rattle.wy_types.proofs.primitive.unbounded.Given as goal

abbrev pub invariant-loop-n : goal.invariant-loop-n
invariant-loop-n l = l.bounds ≡ replicate l._n None
