use Rattle.std.proofs.Common.{◌≡◌, ◌<◌, ◌≤◌, ℕ, List, Some, length}
use Rattle.std.specs.Prelude.{slice_get}
use Rattle.wy_effects.specs.EffSet.{IsSet}
use Rattle.wy_core_tests.proofs.ranges.bounds_fit.Given as goal

abbrev pub invariant-loop-number : goal.invariant-loop-number
invariant-loop-number l = (a : ℕ) (b : List ℕ) → a < l.number → slice_get l.bounds a ≡ Some (Some b) → IsSet a b
