use Rattle.std.proofs.Common.{sym, ◌∙◌}
use Rattle.wy_verify.proofs.RangeLists.{number_met, number_more, numbers_all}
use Rattle.wy_verify.proofs.ranges.distinct.Numbers.each_once.Goals as goal

pub returns-then-contains : goal.returns-then-contains
returns-then-contains c =
    number_met c.args.numbers.now c.loop-number.number-index c.loop-number-test.true c.loop-number.seen.keys c.loop-number.invariant
    (sym c.contains.ensures ∙ c.if-contains.true)

pub loop-number-preserved : goal.loop-number-preserved
loop-number-preserved c =
    number_more c.args.numbers.now c.loop-number.number-index c.loop-number-test.true c.loop-number.seen.keys c.loop-number.invariant
    c.insert.new.self.keys (sym c.contains.ensures ∙ c.if-contains.false) c.in_ok-insert.ensures.keys

pub returns : goal.returns
returns c =
    numbers_all c.args.numbers.now c.loop-number.number-index c.loop-number.seen.keys c.loop-number-test.false c.loop-number.invariant
