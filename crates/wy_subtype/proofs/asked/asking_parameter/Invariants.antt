use Rattle.std.proofs.Common.{ℕ, ◌<◌}
use Rattle.wy_subtype.specs.Asked.{AreExchanged}
use Rattle.wy_subtype.proofs.asked.asking_parameter.Given as goal

abbrev pub invariant-loop-i : goal.invariant-loop-i
invariant-loop-i l = (j : ℕ) → j < l.i → AreExchanged l.left l.right j (l.s, l.t) → ⊥
