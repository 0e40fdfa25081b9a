use Rattle.wy_recheck.proofs.Atoms.{Listing}
use Rattle.wy_recheck.proofs.types.standing_set.Given as goal

abbrev pub invariant-loop-number : goal.invariant-loop-number
invariant-loop-number l = Listing l.atoms l.listed l.number-index l.least l.set
