use Rattle.std.proofs.Common.{◌≡◌, ℕ, ◌<◌, List, Some}
use Rattle.std.specs.Prelude.{slice_get}
use Rattle.wy_premises.proofs.arguments.are_none.Given as goal

abbrev pub invariant-loop-bound : goal.invariant-loop-bound
invariant-loop-bound l = (a : ℕ) (b : List ℕ) → a < l.bound-index → slice_get l.bounds a ≡ Some (Some b) → ⊥
