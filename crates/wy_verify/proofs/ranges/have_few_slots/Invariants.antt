use Rattle.std.proofs.Common.{take}
use Rattle.wy_image.specs.declared.file.Body.{Body}
use Rattle.wy_text.specs.Members.{In}
use Rattle.std.proofs.Common.{◌≤◌}
use Rattle.wy_text.specs.declared.limit.LimitName.TheVariants.{Slots}
use Rattle.wy_text.specs.LimitName.{limit_number}
use Rattle.wy_verify.proofs.ranges.have_few_slots.Given as goal

abbrev pub invariant-loop-body : goal.invariant-loop-body
invariant-loop-body l = (x : Body) → In x (take l.body-index l.bodies) → (λ (b : Body). b.slots ≤ limit_number Slots) x
