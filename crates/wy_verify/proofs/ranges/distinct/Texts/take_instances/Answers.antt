use Rattle.wy_image.specs.declared.file.Instance.{Instance}
use Rattle.wy_verify.proofs.RangeLists.{begins, taken_more, taken_before, taken_all}
use Rattle.wy_verify.proofs.ranges.distinct.Texts.take_instances.Goals as goal

pub loop-instance-init : goal.loop-instance-init
loop-instance-init c = begins (λ (i : Instance). i.name) c.args.self.now c.args.instances.now c.requires

pub returns-then-not-fresh : goal.returns-then-not-fresh
returns-then-not-fresh c =
    taken_before (λ (i : Instance). i.name) c.args.self.now c.args.instances.now c.loop-instance.instance-index c.instance-item.result c.loop-instance-test.true c.instance-item.is c.loop-instance.self c.put.new.self c.loop-instance.invariant _ c.if-not-fresh.true c.in_ok-fresh.ensures

pub loop-instance-preserved : goal.loop-instance-preserved
loop-instance-preserved c =
    taken_more (λ (i : Instance). i.name) c.args.self.now c.args.instances.now c.loop-instance.instance-index c.instance-item.result c.loop-instance-test.true c.instance-item.is c.loop-instance.self c.put.new.self c.loop-instance.invariant _ c.if-not-fresh.false c.in_ok-fresh.ensures

pub returns : goal.returns
returns c = taken_all (λ (i : Instance). i.name) c.args.self.now c.args.instances.now c.loop-instance.instance-index c.loop-instance.self c.loop-instance-test.false c.loop-instance.invariant
