use Rattle.std.proofs.Common.{◌≡◌, drop, map}
use Rattle.wy_proving.specs.Written.{pair_types}
use Rattle.wy_certify.specs.PartTable.{each_once_after}
use Rattle.wy_certify.specs.Pair.{pair_of}
use Rattle.wy_certify.proofs.numbering.TypeNumbers.add_pairs.Given as goal

abbrev pub invariant-loop-pair : goal.invariant-loop-pair
invariant-loop-pair l = each_once_after l.self (pair_types (map pair_of (drop l.pair-index l.pairs))) ≡ each_once_after l.initial.self (pair_types (map pair_of l.pairs))
