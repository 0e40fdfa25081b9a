use Rattle.std.proofs.Common.{◌≡◌, map, take}
use Rattle.wy_image.specs.declared.typing.Bounds.{Bounds}
use Rattle.wy_verify.proofs.ranges.instances.numbers_of.Given as goal

abbrev pub invariant-loop-body : goal.invariant-loop-body
invariant-loop-body l = l.numbers.items ≡ map (λ (n : Bounds). n.body) (take l.body-index l.bodies)
