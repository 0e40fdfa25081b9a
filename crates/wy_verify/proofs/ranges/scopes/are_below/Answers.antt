use Rattle.std.proofs.Common.{ℕ, ◌<◌, ◌≤◌, get_or, arith}
use Rattle.wy_text.proofs.Lists.{In-get, each_more}
use Rattle.wy_verify.proofs.RangeTests.{denied, none_fails}
use Rattle.wy_verify.proofs.ranges.scopes.are_below.Goals as goal

pub returns-then-number-bound : goal.returns-then-number-bound
returns-then-number-bound c =
    let n = get_or c.args.numbers.now c.loop-number.number-index 0 in
    let ge : c.args.bound ≤ n = c.if-number-bound.true in
    denied (λ all. let h = all n (In-get c.args.numbers.now c.loop-number.number-index 0 c.loop-number-test.true) in omega (arith, h, ge))

pub loop-number-preserved : goal.loop-number-preserved
loop-number-preserved c =
    each_more (λ (n : ℕ). n < c.args.bound) c.args.numbers.now c.loop-number.number-index 0 c.loop-number-test.true c.loop-number.invariant
    c.if-number-bound.false

pub returns : goal.returns
returns c =
    none_fails (λ (n : ℕ). n < c.args.bound) c.args.numbers.now c.loop-number.number-index c.loop-number-test.false c.loop-number.invariant
