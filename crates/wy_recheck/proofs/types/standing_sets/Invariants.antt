use Rattle.std.proofs.Common.{ℕ, List}
use Rattle.wy_effects.specs.EffSet.{IsSet}
use Rattle.wy_recheck.proofs.Firsts.{Passed}
use Rattle.wy_recheck.proofs.types.standing_sets.Given as goal

abbrev pub invariant-loop-numbers : goal.invariant-loop-numbers
invariant-loop-numbers l = Passed (λ (e : List ℕ). e) (IsSet l.atoms) l.listed l.numbers-index l.sets
