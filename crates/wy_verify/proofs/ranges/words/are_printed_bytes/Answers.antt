use Rattle.wy_verify.specs.RangeParts.{IsPrintedByte}
use Rattle.wy_verify.proofs.RangeTests.{one_fails, one_more, none_fails}
use Rattle.wy_verify.proofs.ranges.words.are_printed_bytes.Goals as goal

pub returns-then-not-is_printed_byte : goal.returns-then-not-is_printed_byte
returns-then-not-is_printed_byte c =
    one_fails (IsPrintedByte) c.args.bytes.now c.loop-byte.byte-index 0 c.is_printed_byte.result c.loop-byte-test.true c.if-not-is_printed_byte.true
    c.is_printed_byte.ensures

pub loop-byte-preserved : goal.loop-byte-preserved
loop-byte-preserved c =
    one_more (IsPrintedByte) c.args.bytes.now c.loop-byte.byte-index 0 c.is_printed_byte.result c.loop-byte-test.true c.loop-byte.invariant
    c.if-not-is_printed_byte.false c.is_printed_byte.ensures

pub returns : goal.returns
returns c = none_fails (IsPrintedByte) c.args.bytes.now c.loop-byte.byte-index c.loop-byte-test.false c.loop-byte.invariant
