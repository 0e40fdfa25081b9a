use Rattle.std.proofs.Common.{◌≡◌, take, map}
use Rattle.wy_proving.specs.Written.{cert_pair}
use Rattle.wy_certify.specs.Pair.{pair_of}
use Rattle.wy_certify.proofs.listing.cert_pairs_of.Given as goal

abbrev pub invariant-loop-pair : goal.invariant-loop-pair
invariant-loop-pair l = l.listed ≡ map (cert_pair l.table) (map pair_of (take l.pair-index l.pairs))
