use Rattle.std.proofs.Common.{rules, subst}
use Rattle.wy_text.proofs.Lists.{each_more, each_all}
use Rattle.wy_types.specs.declared.types.TypeRef.{TypeRef}
use Rattle.wy_types.specs.Program.{program_of}
use Rattle.wy_types.specs.Fitting.{FitsType}
use Rattle.wy_core_tests.proofs.ranges.types_fit.Goals as goal

pub loop-t-preserved : goal.loop-t-preserved
loop-t-preserved c =
    let P : TypeRef → Type 0 = λ x. FitsType (program_of c.args.core.now) c.args.number 0 x in
    each_more P c.args.types.now c.loop-t.t-index c.t-item.result c.loop-t-test.true c.loop-t.invariant
    (subst P c.t-item.is (c.in_ok-type_fits.ensures (search rules)))

pub returns : goal.returns
returns c = λ _.
    let P : TypeRef → Type 0 = λ x. FitsType (program_of c.args.core.now) c.args.number 0 x in
    each_all P c.args.types.now c.loop-t.t-index c.loop-t-test.false c.loop-t.invariant
