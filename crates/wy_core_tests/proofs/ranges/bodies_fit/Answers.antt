use Rattle.std.proofs.Common.{rules, subst}
use Rattle.wy_text.proofs.Lists.{each_more, each_all}
use Rattle.wy_types.specs.declared.resolved.Body.{Body}
use Rattle.wy_types.specs.Program.{program_of}
use Rattle.wy_core_tests.proofs.RangeLemmas.{BodyFits}
use Rattle.wy_core_tests.proofs.ranges.bodies_fit.Goals as goal

pub loop-body-preserved : goal.loop-body-preserved
loop-body-preserved c =
    let P : Body → Type 0 = λ x. BodyFits (program_of c.args.core.now) x in
    each_more P c.args.bodies.now c.loop-body.body-index c.body-item.result c.loop-body-test.true c.loop-body.invariant
    (subst P c.body-item.is (c.in_ok-method_fits.ensures.fits (search rules), c.in_ok-method_fits.ensures.few (search rules)))

pub returns : goal.returns
returns c = λ _.
    let P : Body → Type 0 = λ x. BodyFits (program_of c.args.core.now) x in
    each_all P c.args.bodies.now c.loop-body.body-index c.loop-body-test.false c.loop-body.invariant
