use Rattle.std.proofs.Common.{◌↔◌, IsTrue, List, subst}
use Rattle.wy_image.specs.declared.typing.Signature.{Signature}
use Rattle.wy_verified.specs.Ranges.{TypeInRange}
use Rattle.wy_verify.proofs.RangeTests.{item_fails, item_more, none_fails}
use Rattle.wy_verify.proofs.ranges.types.are_types.Goals as goal

pub returns-then-not-fits : goal.returns-then-not-fits
returns-then-not-fits c =
    item_fails (TypeInRange c.args.file.now) c.args.types.now c.loop-listed.listed-index c.listed-item.result _ c.loop-listed-test.true c.listed-item.is c.if-not-fits.true
    (subst (λ (t : List Signature). IsTrue c.in_ok-fits.fits ↔ TypeInRange c.args.file.now t) c.as_slice.ensures c.in_ok-fits.ensures)

pub loop-listed-preserved : goal.loop-listed-preserved
loop-listed-preserved c =
    item_more (TypeInRange c.args.file.now) c.args.types.now c.loop-listed.listed-index c.listed-item.result _ c.loop-listed-test.true c.listed-item.is c.loop-listed.invariant c.if-not-fits.false
    (subst (λ (t : List Signature). IsTrue c.in_ok-fits.fits ↔ TypeInRange c.args.file.now t) c.as_slice.ensures c.in_ok-fits.ensures)

pub returns : goal.returns
returns c = none_fails (TypeInRange c.args.file.now) c.args.types.now c.loop-listed.listed-index c.loop-listed-test.false c.loop-listed.invariant
