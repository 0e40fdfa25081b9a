use Rattle.std.proofs.Common.{◌≡◌, take}
use Rattle.wy_certify.proofs.listing.sets_numbers.Given as goal

abbrev pub invariant-loop-set : goal.invariant-loop-set
invariant-loop-set l = l.lists ≡ take l.set-index l.sets
