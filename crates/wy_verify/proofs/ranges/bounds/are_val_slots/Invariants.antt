use Rattle.std.proofs.Common.{ℕ, take}
use Rattle.wy_text.specs.Members.{In}
use Rattle.wy_verify.specs.RangeParts.{IsValSlot}
use Rattle.wy_verify.proofs.ranges.bounds.are_val_slots.Given as goal

abbrev pub invariant-loop-slot : goal.invariant-loop-slot
invariant-loop-slot l = (x : ℕ) → In x (take l.slot-index l.slots) → IsValSlot l.body l.vals x
