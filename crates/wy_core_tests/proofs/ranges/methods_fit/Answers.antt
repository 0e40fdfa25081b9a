use Rattle.std.proofs.Common.{rules, subst}
use Rattle.wy_text.proofs.Lists.{each_more, each_all}
use Rattle.wy_types.specs.declared.types.Method.{Method}
use Rattle.wy_types.specs.Program.{program_of}
use Rattle.wy_core_tests.proofs.RangeLemmas.{MethodFits}
use Rattle.wy_core_tests.proofs.ranges.methods_fit.Goals as goal

pub loop-m-preserved : goal.loop-m-preserved
loop-m-preserved c =
    let P : Method → Type 0 = λ x. MethodFits (program_of c.args.core.now) c.args.number x in
    each_more P c.args.methods.now c.loop-m.m-index c.m-item.result c.loop-m-test.true c.loop-m.invariant
    (subst P c.m-item.is (c.in_ok-method_fits.ensures.fits (search rules), c.in_ok-method_fits.ensures.few (search rules)))

pub returns : goal.returns
returns c = λ _.
    let P : Method → Type 0 = λ x. MethodFits (program_of c.args.core.now) c.args.number x in
    each_all P c.args.methods.now c.loop-m.m-index c.loop-m-test.false c.loop-m.invariant
