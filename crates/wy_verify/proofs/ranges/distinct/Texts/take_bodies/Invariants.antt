use Rattle.std.proofs.Common.{take}
use Rattle.wy_image.specs.declared.typing.Bounds.{Bounds}
use Rattle.wy_verify.proofs.RangeLists.{IsMet}
use Rattle.wy_verify.proofs.ranges.distinct.Texts.take_bodies.Given as goal

abbrev pub invariant-loop-body : goal.invariant-loop-body
invariant-loop-body l = IsMet (λ (n : Bounds). n.name) l.fn.self (take l.body-index l.bodies) l.self
