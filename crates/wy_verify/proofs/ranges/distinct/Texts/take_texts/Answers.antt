use Rattle.std.proofs.Common.{ℕ, List}
use Rattle.wy_verify.proofs.RangeLists.{begins, taken_more, taken_before, taken_all}
use Rattle.wy_verify.proofs.ranges.distinct.Texts.take_texts.Goals as goal

pub loop-text-init : goal.loop-text-init
loop-text-init c = begins (λ (t : List ℕ). t) c.args.self.now c.args.texts.now c.requires

pub returns-then-not-fresh : goal.returns-then-not-fresh
returns-then-not-fresh c =
    taken_before (λ (t : List ℕ). t) c.args.self.now c.args.texts.now c.loop-text.text-index c.text-item.result c.loop-text-test.true c.text-item.is c.loop-text.self c.put.new.self c.loop-text.invariant _ c.if-not-fresh.true c.in_ok-fresh.ensures

pub loop-text-preserved : goal.loop-text-preserved
loop-text-preserved c =
    taken_more (λ (t : List ℕ). t) c.args.self.now c.args.texts.now c.loop-text.text-index c.text-item.result c.loop-text-test.true c.text-item.is c.loop-text.self c.put.new.self c.loop-text.invariant _ c.if-not-fresh.false c.in_ok-fresh.ensures

pub returns : goal.returns
returns c = taken_all (λ (t : List ℕ). t) c.args.self.now c.args.texts.now c.loop-text.text-index c.loop-text.self c.loop-text-test.false c.loop-text.invariant
