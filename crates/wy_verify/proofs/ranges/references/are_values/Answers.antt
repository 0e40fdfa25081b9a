use Rattle.std.proofs.Common.{arith}
use Rattle.wy_verify.proofs.RangeJoins.{values_of}
use Rattle.wy_verify.proofs.RangeTests.{refuted, reworded}
use Rattle.wy_verify.proofs.ranges.references.are_values.Goals as goal

pub returns-then-not-is_sum : goal.returns-then-not-is_sum
returns-then-not-is_sum c =
    refuted c.is_sum.result c.if-not-is_sum.true
    (c.is_sum.ensures)
    (λ v. v.count)

pub returns-then-not-are_references : goal.returns-then-not-are_references
returns-then-not-are_references c =
    refuted c.are_references.result c.if-not-are_references.true
    (c.are_references.ensures)
    (λ v. v.all)

pub returns : goal.returns
returns c =
    reworded c.are_plain_behind.result
    (c.are_plain_behind.ensures)
    (λ p. values_of c.args.writer.now.file.now c.args.writer.now.instance c.args.writer.now.scope.now c.args.before c.args.fields c.args.references.now ((c.is_sum.ensures).0 c.if-not-is_sum.false) ((c.are_references.ensures).0 c.if-not-are_references.false) p)
    (λ v. v.plain)

pub are_plain_behind-requires : goal.are_plain_behind-requires
are_plain_behind-requires c =
    let e = c.is_sum.ensures.0 c.if-not-is_sum.false in omega (arith, e)
