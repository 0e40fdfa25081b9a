use Rattle.std.proofs.Common.{◌≡◌, ◌≤◌, length, true}
use Rattle.wy_layout.specs.Words as spec
use Rattle.wy_layout.proofs.words.value.Given as goal

abbrev pub invariant-loop-rest : goal.invariant-loop-rest
invariant-loop-rest l = (spec.value_from l.sum l.rest ≡ spec.value_from 0 l.digits) × (l.sum ≤ spec.edge) × (spec.all_digits l.rest ≡ true)

abbrev pub decreases-loop-rest : goal.decreases-loop-rest
decreases-loop-rest l = length l.rest
