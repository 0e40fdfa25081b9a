-- Pairs of types of the code's own.
use Rattle.wy_proving.specs.Certified.{Pair}
use Rattle.wy_certify.specs.declared.pair.TypePair.{TypePair}

-- the pair that is meant
abbrev pub pair_of : TypePair → Pair
pair_of q = (q.left, q.right)
