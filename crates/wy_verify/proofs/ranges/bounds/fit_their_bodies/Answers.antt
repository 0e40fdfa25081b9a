use Rattle.wy_verify.specs.RangeParts.{BoundsFit}
use Rattle.wy_verify.proofs.RangeTests.{item_fails, item_more, none_fails}
use Rattle.wy_verify.proofs.ranges.bounds.fit_their_bodies.Goals as goal

pub returns-then-not-fits_its_body : goal.returns-then-not-fits_its_body
returns-then-not-fits_its_body c =
    item_fails (BoundsFit c.args.writer.now.file.now c.args.writer.now.instance c.args.writer.now.scope.now) c.args.bodies.now c.loop-bounds.bounds-index c.bounds-item.result c.fits_its_body.result c.loop-bounds-test.true c.bounds-item.is c.if-not-fits_its_body.true
    c.fits_its_body.ensures

pub loop-bounds-preserved : goal.loop-bounds-preserved
loop-bounds-preserved c =
    item_more (BoundsFit c.args.writer.now.file.now c.args.writer.now.instance c.args.writer.now.scope.now) c.args.bodies.now c.loop-bounds.bounds-index c.bounds-item.result c.fits_its_body.result c.loop-bounds-test.true c.bounds-item.is c.loop-bounds.invariant
    c.if-not-fits_its_body.false c.fits_its_body.ensures

pub returns : goal.returns
returns c = none_fails (BoundsFit c.args.writer.now.file.now c.args.writer.now.instance c.args.writer.now.scope.now) c.args.bodies.now c.loop-bounds.bounds-index c.loop-bounds-test.false c.loop-bounds.invariant
