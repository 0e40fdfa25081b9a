use Rattle.wy_verify.specs.RangeParts.{IsValSlot}
use Rattle.wy_verify.proofs.RangeTests.{one_fails, one_more, none_fails}
use Rattle.wy_verify.proofs.ranges.bounds.are_val_slots.Goals as goal

pub returns-then-not-is_val_slot : goal.returns-then-not-is_val_slot
returns-then-not-is_val_slot c =
    one_fails (IsValSlot c.args.body.now c.args.vals) c.args.slots.now c.loop-slot.slot-index 0 c.is_val_slot.result c.loop-slot-test.true c.if-not-is_val_slot.true
    c.is_val_slot.ensures

pub loop-slot-preserved : goal.loop-slot-preserved
loop-slot-preserved c =
    one_more (IsValSlot c.args.body.now c.args.vals) c.args.slots.now c.loop-slot.slot-index 0 c.is_val_slot.result c.loop-slot-test.true c.loop-slot.invariant
    c.if-not-is_val_slot.false c.is_val_slot.ensures

pub returns : goal.returns
returns c = none_fails (IsValSlot c.args.body.now c.args.vals) c.args.slots.now c.loop-slot.slot-index c.loop-slot-test.false c.loop-slot.invariant
