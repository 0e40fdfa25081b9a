use Rattle.std.proofs.Common.{◌≡◌, ◌<◌, ℕ, List, Some, length, refl, arith}
use Rattle.std.specs.Prelude.{slice_get}
use Rattle.std.proofs.lemmas.Option.{slice_get_within}
use Rattle.wy_effects.proofs.Ordering.{fit_down}
use Rattle.wy_core_tests.proofs.ranges.bounds_fit.Goals as goal

pub returns : goal.returns
returns c = λ _.
    let bounds = c.args.bounds.now in
    let before : (a : ℕ) (b : List ℕ) → slice_get bounds a ≡ Some (Some b) → a < c.loop-number.number = λ a b e.
    let inside : a < length bounds = slice_get_within bounds a (Some b) e in
    omega (arith, c.loop-number-test.false) in
    (fit_down (length bounds) bounds (refl, λ a b e. c.loop-number.invariant a b (before a b e) e), omega (arith, c.if-bounds-gt512.false))
