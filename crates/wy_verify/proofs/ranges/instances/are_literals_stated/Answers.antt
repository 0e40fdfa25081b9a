use Rattle.std.proofs.Common.{ℕ, List}
use Rattle.std.specs.Prelude.{slice_get}
use Rattle.wy_image.specs.declared.typing.Reference.{Reference}
use Rattle.wy_verified.specs.Ranges.{LiteralStated}
use Rattle.wy_verify.proofs.RangeTests.{place_fails, place_more, places_pass}
use Rattle.wy_verify.proofs.ranges.instances.are_literals_stated.Goals as goal

pub returns-then-not-is_literal_stated : goal.returns-then-not-is_literal_stated
returns-then-not-is_literal_stated c =
    place_fails ((λ (k : ℕ) (rs : List Reference). LiteralStated c.args.writer.now.file.now c.args.writer.now.instance c.args.writer.now.scope.now (slice_get c.args.writer.now.scope.now.literals k) rs)) c.args.literals.now c.loop-l.l c.index-literals-l.result c.is_literal_stated.result c.loop-l-test.true c.index-literals-l.is c.if-not-is_literal_stated.true
    (c.is_literal_stated.ensures)

pub loop-l-preserved : goal.loop-l-preserved
loop-l-preserved c =
    place_more ((λ (k : ℕ) (rs : List Reference). LiteralStated c.args.writer.now.file.now c.args.writer.now.instance c.args.writer.now.scope.now (slice_get c.args.writer.now.scope.now.literals k) rs)) c.args.literals.now c.loop-l.l c.index-literals-l.result c.is_literal_stated.result c.loop-l-test.true c.index-literals-l.is c.loop-l.invariant c.if-not-is_literal_stated.false
    (c.is_literal_stated.ensures)

pub returns : goal.returns
returns c =
    places_pass ((λ (k : ℕ) (rs : List Reference). LiteralStated c.args.writer.now.file.now c.args.writer.now.instance c.args.writer.now.scope.now (slice_get c.args.writer.now.scope.now.literals k) rs)) c.args.literals.now c.loop-l.l c.loop-l-test.false c.loop-l.invariant
