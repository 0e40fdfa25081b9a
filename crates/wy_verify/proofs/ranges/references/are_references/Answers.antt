use Rattle.wy_verified.specs.Ranges.{ReferenceInRange}
use Rattle.wy_image.specs.declared.typing.Reference.TheVariants.{Int}
use Rattle.wy_verify.proofs.RangeTests.{one_fails, one_more, none_fails}
use Rattle.wy_verify.proofs.ranges.references.are_references.Goals as goal

pub returns-then-not-is_reference : goal.returns-then-not-is_reference
returns-then-not-is_reference c =
    one_fails (ReferenceInRange c.args.writer.now.file.now c.args.writer.now.instance c.args.writer.now.scope.now) c.args.references.now c.loop-reference.reference-index Int c.is_reference.result c.loop-reference-test.true c.if-not-is_reference.true
    c.is_reference.ensures

pub loop-reference-preserved : goal.loop-reference-preserved
loop-reference-preserved c =
    one_more (ReferenceInRange c.args.writer.now.file.now c.args.writer.now.instance c.args.writer.now.scope.now) c.args.references.now c.loop-reference.reference-index Int c.is_reference.result c.loop-reference-test.true c.loop-reference.invariant
    c.if-not-is_reference.false c.is_reference.ensures

pub returns : goal.returns
returns c = none_fails (ReferenceInRange c.args.writer.now.file.now c.args.writer.now.instance c.args.writer.now.scope.now) c.args.references.now c.loop-reference.reference-index c.loop-reference-test.false c.loop-reference.invariant
