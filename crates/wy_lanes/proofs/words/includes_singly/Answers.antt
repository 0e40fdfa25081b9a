use Rattle.std.proofs.Common.{arith}
use Rattle.wy_lanes.proofs.Blocks.{AllInside-get_or, AllInside-take_next, not_all}
use Rattle.wy_lanes.proofs.words.includes_singly.Goals as goal

pub returns-then-inner-at : goal.returns-then-inner-at
returns-then-inner-at c =
    let inner = c.args.inner.now in
    let outer = c.args.outer.now in
    not_all inner outer (λ all. c.if-inner-at.true (AllInside-get_or c.loop-at.at inner outer (omega arith) (omega arith) all))

pub loop-at-preserved : goal.loop-at-preserved
loop-at-preserved c = AllInside-take_next c.loop-at.at c.args.inner.now c.args.outer.now c.loop-at.invariant c.if-inner-at.false
