use Rattle.std.proofs.Common.{ℕ, ◌≡◌, ◌<◌, Some}
use Rattle.std.specs.Prelude.{slice_get}
use Rattle.wy_image.specs.declared.file.Instance.{Instance}
use Rattle.wy_verified.specs.Ranges.{InstanceInRange}
use Rattle.wy_verify.proofs.ranges.instances.are_instances.Given as goal

abbrev pub invariant-loop-x : goal.invariant-loop-x
invariant-loop-x l = (k : ℕ) (y : Instance) → k < l.x → slice_get l.instances k ≡ Some y → (λ (k : ℕ) (i : Instance). InstanceInRange l.file k i) k y
