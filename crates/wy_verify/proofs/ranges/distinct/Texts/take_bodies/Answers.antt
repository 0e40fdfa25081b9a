use Rattle.wy_image.specs.declared.typing.Bounds.{Bounds}
use Rattle.wy_verify.proofs.RangeLists.{begins, taken_more, taken_before, taken_all}
use Rattle.wy_verify.proofs.ranges.distinct.Texts.take_bodies.Goals as goal

pub loop-body-init : goal.loop-body-init
loop-body-init c = begins (λ (n : Bounds). n.name) c.args.self.now c.args.bodies.now c.requires

pub returns-then-not-fresh : goal.returns-then-not-fresh
returns-then-not-fresh c =
    taken_before (λ (n : Bounds). n.name) c.args.self.now c.args.bodies.now c.loop-body.body-index c.body-item.result c.loop-body-test.true c.body-item.is c.loop-body.self c.put.new.self c.loop-body.invariant _ c.if-not-fresh.true c.in_ok-fresh.ensures

pub loop-body-preserved : goal.loop-body-preserved
loop-body-preserved c =
    taken_more (λ (n : Bounds). n.name) c.args.self.now c.args.bodies.now c.loop-body.body-index c.body-item.result c.loop-body-test.true c.body-item.is c.loop-body.self c.put.new.self c.loop-body.invariant _ c.if-not-fresh.false c.in_ok-fresh.ensures

pub returns : goal.returns
returns c = taken_all (λ (n : Bounds). n.name) c.args.self.now c.args.bodies.now c.loop-body.body-index c.loop-body.self c.loop-body-test.false c.loop-body.invariant
