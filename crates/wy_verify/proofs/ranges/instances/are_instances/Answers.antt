use Rattle.std.proofs.Common.{ℕ}
use Rattle.wy_image.specs.declared.file.Instance.{Instance}
use Rattle.wy_verified.specs.Ranges.{InstanceInRange}
use Rattle.wy_verify.proofs.RangeTests.{place_fails, place_more, places_pass}
use Rattle.wy_verify.proofs.ranges.instances.are_instances.Goals as goal

pub returns-then-not-fits : goal.returns-then-not-fits
returns-then-not-fits c =
    place_fails ((λ (k : ℕ) (i : Instance). InstanceInRange c.args.file.now k i)) c.args.instances.now c.loop-x.x c.index-instances-x.result c.in_ok-fits.fits c.loop-x-test.true c.index-instances-x.is c.if-not-fits.true
    (c.in_ok-fits.ensures)

pub loop-x-preserved : goal.loop-x-preserved
loop-x-preserved c =
    place_more ((λ (k : ℕ) (i : Instance). InstanceInRange c.args.file.now k i)) c.args.instances.now c.loop-x.x c.index-instances-x.result c.in_ok-fits.fits c.loop-x-test.true c.index-instances-x.is c.loop-x.invariant c.if-not-fits.false
    (c.in_ok-fits.ensures)

pub returns : goal.returns
returns c =
    places_pass ((λ (k : ℕ) (i : Instance). InstanceInRange c.args.file.now k i)) c.args.instances.now c.loop-x.x c.loop-x-test.false c.loop-x.invariant
