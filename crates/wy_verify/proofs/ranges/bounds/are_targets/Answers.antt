use Rattle.wy_verified.specs.Ranges.{TargetInRange}
use Rattle.wy_verify.proofs.RangeTests.{item_fails, item_more, none_fails}
use Rattle.wy_verify.proofs.ranges.bounds.are_targets.Goals as goal

pub returns-then-not-is_target : goal.returns-then-not-is_target
returns-then-not-is_target c =
    item_fails (TargetInRange c.args.writer.now.file.now c.args.writer.now.instance c.args.writer.now.scope.now c.args.body.now c.args.vals) c.args.targets.now c.loop-target.target-index c.target-item.result c.is_target.result c.loop-target-test.true c.target-item.is c.if-not-is_target.true
    c.is_target.ensures

pub loop-target-preserved : goal.loop-target-preserved
loop-target-preserved c =
    item_more (TargetInRange c.args.writer.now.file.now c.args.writer.now.instance c.args.writer.now.scope.now c.args.body.now c.args.vals) c.args.targets.now c.loop-target.target-index c.target-item.result c.is_target.result c.loop-target-test.true c.target-item.is c.loop-target.invariant
    c.if-not-is_target.false c.is_target.ensures

pub returns : goal.returns
returns c = none_fails (TargetInRange c.args.writer.now.file.now c.args.writer.now.instance c.args.writer.now.scope.now c.args.body.now c.args.vals) c.args.targets.now c.loop-target.target-index c.loop-target-test.false c.loop-target.invariant
