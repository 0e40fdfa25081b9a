use Rattle.std.proofs.Common.{◌≡◌, ◌++◌, map, drop}
use Rattle.wy_certify.specs.Pair.{pair_of}
use Rattle.wy_certify.specs.Closed.{at_empty}
use Rattle.wy_certify.proofs.closing.at_empty.Given as goal

abbrev pub invariant-loop-pair : goal.invariant-loop-pair
invariant-loop-pair l = map pair_of l.out ++ map at_empty (map pair_of (drop l.pair-index l.pairs)) ≡ map at_empty (map pair_of l.pairs)
