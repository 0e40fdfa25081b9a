use Rattle.wy_verified.specs.Ranges.{ArgumentInRange}
use Rattle.wy_image.specs.declared.file.Argument.TheVariants.{Grant}
use Rattle.wy_verify.proofs.RangeTests.{one_fails, one_more, none_fails}
use Rattle.wy_verify.proofs.ranges.instances.are_arguments.Goals as goal

pub returns-then-not-is_argument : goal.returns-then-not-is_argument
returns-then-not-is_argument c =
    one_fails (ArgumentInRange c.args.file.now c.args.number) c.args.arguments.now c.loop-argument.argument-index (Grant 0) c.is_argument.result c.loop-argument-test.true c.if-not-is_argument.true
    c.is_argument.ensures

pub loop-argument-preserved : goal.loop-argument-preserved
loop-argument-preserved c =
    one_more (ArgumentInRange c.args.file.now c.args.number) c.args.arguments.now c.loop-argument.argument-index (Grant 0) c.is_argument.result c.loop-argument-test.true c.loop-argument.invariant
    c.if-not-is_argument.false c.is_argument.ensures

pub returns : goal.returns
returns c = none_fails (ArgumentInRange c.args.file.now c.args.number) c.args.arguments.now c.loop-argument.argument-index c.loop-argument-test.false c.loop-argument.invariant
