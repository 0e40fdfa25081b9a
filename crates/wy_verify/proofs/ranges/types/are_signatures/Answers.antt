use Rattle.wy_verified.specs.Ranges.{SignatureInRange}
use Rattle.wy_verify.proofs.RangeTests.{item_fails, item_more, none_fails}
use Rattle.wy_verify.proofs.ranges.types.are_signatures.Goals as goal

pub returns-then-not-is_signature : goal.returns-then-not-is_signature
returns-then-not-is_signature c =
    item_fails (SignatureInRange c.args.file.now) c.args.signatures.now c.loop-signature.signature-index c.signature-item.result c.is_signature.result c.loop-signature-test.true c.signature-item.is c.if-not-is_signature.true
    c.is_signature.ensures

pub loop-signature-preserved : goal.loop-signature-preserved
loop-signature-preserved c =
    item_more (SignatureInRange c.args.file.now) c.args.signatures.now c.loop-signature.signature-index c.signature-item.result c.is_signature.result c.loop-signature-test.true c.signature-item.is c.loop-signature.invariant
    c.if-not-is_signature.false c.is_signature.ensures

pub returns : goal.returns
returns c = none_fails (SignatureInRange c.args.file.now) c.args.signatures.now c.loop-signature.signature-index c.loop-signature-test.false c.loop-signature.invariant
