use Rattle.std.proofs.Common.{rules, subst, List, ℕ}
use Rattle.wy_text.proofs.Lists.{each_more, each_all}
use Rattle.wy_effects.specs.EffSet.{IsSet}
use Rattle.wy_core_tests.proofs.ranges.sets_fit.Goals as goal

pub loop-set-preserved : goal.loop-set-preserved
loop-set-preserved c =
    let P : List ℕ → Type 0 = λ x. IsSet c.args.number x in
    each_more P c.args.sets.now c.loop-set.set-index c.set-item.result c.loop-set-test.true c.loop-set.invariant
    (subst P c.set-item.is (c.in_ok-set_fits.ensures (search rules)))

pub returns : goal.returns
returns c = λ _.
    let P : List ℕ → Type 0 = λ x. IsSet c.args.number x in
    each_all P c.args.sets.now c.loop-set.set-index c.loop-set-test.false c.loop-set.invariant
