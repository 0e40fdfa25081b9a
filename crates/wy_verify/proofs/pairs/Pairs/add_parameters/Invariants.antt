use Rattle.std.proofs.Common.{take}
use Rattle.wy_verify.specs.Closing.{IsGrown, exchanged}
use Rattle.wy_verify.proofs.pairs.Pairs.add_parameters.Given as goal

abbrev pub invariant-loop-at : goal.invariant-loop-at
invariant-loop-at l = IsGrown l.initial.self l.self (take l.at (exchanged l.left.params l.right.params))
