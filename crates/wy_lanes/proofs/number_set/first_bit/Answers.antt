use Rattle.std.proofs.Common.{arith, sym}
use Rattle.wy_lanes.proofs.NumbersOf.{NoneBelow-next, first_from-bit, first_from-no_bit}
use Rattle.wy_lanes.proofs.number_set.first_bit.Goals as goal

pub loop-at-init : goal.loop-at-init
loop-at-init c = λ n above below. absurd (omega (arith, above, below))

pub loop-at-preserved : goal.loop-at-preserved
loop-at-preserved c = NoneBelow-next c.args.words.now c.args.from c.loop-at.at c.saturating_sub-low.result c.loop-at.invariant c.saturating_sub-low.ensures c.in_default.ensures.none

pub returns-in-Some : goal.returns-in-Some
returns-in-Some c =
    let there = c.in-Some.ensures.there in
    sym (first_from-bit c.args.words.now c.args.from c.loop-at.at c.saturating_sub-low.result c.in-Some.bit c.loop-at.invariant c.saturating_sub-low.ensures there.0 there.1 there.2 c.in-Some.ensures.lowest)

pub returns : goal.returns
returns c = sym (first_from-no_bit c.args.words.now c.args.from c.loop-at.at c.loop-at.invariant (omega (arith, c.told-words)))
