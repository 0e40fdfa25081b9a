use Rattle.wy_image.specs.declared.file.Body.{Body}
use Rattle.std.proofs.Common.{◌≤◌}
use Rattle.wy_text.specs.declared.limit.LimitName.TheVariants.{Slots}
use Rattle.wy_text.specs.LimitName.{limit_number}
use Rattle.wy_verify.proofs.RangeTests.{item_fails, item_more, none_fails}
use Rattle.wy_verify.proofs.ranges.have_few_slots.Goals as goal

pub returns-then-not-has_few_slots : goal.returns-then-not-has_few_slots
returns-then-not-has_few_slots c =
    item_fails ((λ (b : Body). b.slots ≤ limit_number Slots)) c.args.bodies.now c.loop-body.body-index c.body-item.result c.has_few_slots.result c.loop-body-test.true c.body-item.is c.if-not-has_few_slots.true
    c.has_few_slots.ensures

pub loop-body-preserved : goal.loop-body-preserved
loop-body-preserved c =
    item_more ((λ (b : Body). b.slots ≤ limit_number Slots)) c.args.bodies.now c.loop-body.body-index c.body-item.result c.has_few_slots.result c.loop-body-test.true c.body-item.is c.loop-body.invariant
    c.if-not-has_few_slots.false c.has_few_slots.ensures

pub returns : goal.returns
returns c = none_fails ((λ (b : Body). b.slots ≤ limit_number Slots)) c.args.bodies.now c.loop-body.body-index c.loop-body-test.false c.loop-body.invariant
