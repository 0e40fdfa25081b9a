use Rattle.wy_verified.specs.Ranges.{IsPlain}
use Rattle.wy_image.specs.declared.typing.Reference.TheVariants.{Int}
use Rattle.wy_verify.proofs.RangeTests.{one_fails, one_more, none_fails}
use Rattle.wy_verify.proofs.ranges.references.are_plain.Goals as goal

pub returns-then-not-is_plain : goal.returns-then-not-is_plain
returns-then-not-is_plain c =
    one_fails (IsPlain c.args.file.now) c.args.references.now c.loop-reference.reference-index Int c.is_plain.result c.loop-reference-test.true c.if-not-is_plain.true
    c.is_plain.ensures

pub loop-reference-preserved : goal.loop-reference-preserved
loop-reference-preserved c =
    one_more (IsPlain c.args.file.now) c.args.references.now c.loop-reference.reference-index Int c.is_plain.result c.loop-reference-test.true c.loop-reference.invariant
    c.if-not-is_plain.false c.is_plain.ensures

pub returns : goal.returns
returns c = none_fails (IsPlain c.args.file.now) c.args.references.now c.loop-reference.reference-index c.loop-reference-test.false c.loop-reference.invariant
