use Rattle.wy_recheck.proofs.ListedPairs.{Gathered}
use Rattle.wy_recheck.proofs.pairs.listed_pairs.Given as goal

abbrev pub invariant-loop-pair : goal.invariant-loop-pair
invariant-loop-pair l = Gathered l.types l.pairs l.pair-index l.set
