use Rattle.std.proofs.Common.{◌≡◌, ◌+◌, ◌-◌, ◌<◌, List, length, take, ap, ◌∙◌, arith, Err}
use Rattle.wy_proving.specs.Reading.{part_stands, part_fails}
use Rattle.wy_recheck.specs.declared.forms.Waiting.{Waiting}
use Rattle.wy_recheck.specs.Nodes.{left, closing, closed}
use Rattle.wy_recheck.proofs.NodesFailing.{handed_on, first_weaker}
use Rattle.wy_recheck.proofs.NodesInOrder.{closes_one, closing_fails}
use Rattle.wy_recheck.proofs.reader.Reader.close_all.Goals as goal

pub returns-in_err-part : goal.returns-in_err-part
returns-in_err-part c =
    let r = c.args.self.now in
    let ws : List Waiting = c.args.waiting.now in
    let n = c.loop-open.open - 1 in
    let at = c.loop-open.at in
    let t = c.loop-open.part.typ in
    let f = c.loop-open.part.effect in
    let w : Waiting = c.index-waiting-open.result in
    let lt : n < length ws = omega (arith, c.loop-open.invariant.few, c.loop-open-test.true) in
    let one : c.loop-open.open ≡ n + 1 = omega (arith, c.loop-open-test.true) in
    let before = c.loop-open.invariant.same ∙ ap (λ k. closing r (take k ws) (part_stands t f at (left r at))) one in
    let e : c.from_residual.result ≡ Err c.in_err-part.field-0.0 = handed_on c.from_residual.result c.in_err-part.field-0.0 c.from_residual.ensures.1 in
    rw e (first_weaker (λ i. closed r w t f at (left r at) ≡ part_fails i) (λ i. closing r ws (part_stands c.args.last.typ c.args.last.effect c.args.at.now (left r c.args.at.now)) ≡ part_fails i)
    (λ i g. before ∙ closes_one r ws n w lt c.index-waiting-open.is t f at (part_fails i) g ∙ closing_fails r (take n ws) i) c.in_err-part.field-0.0 c.in_err-part.ensures)

pub loop-open-preserved : goal.loop-open-preserved
loop-open-preserved c =
    let r = c.args.self.now in
    let ws : List Waiting = c.args.waiting.now in
    let n = c.loop-open.open - 1 in
    let at = c.loop-open.at in
    let t = c.loop-open.part.typ in
    let f = c.loop-open.part.effect in
    let w : Waiting = c.index-waiting-open.result in
    let lt : n < length ws = omega (arith, c.loop-open.invariant.few, c.loop-open-test.true) in
    let one : c.loop-open.open ≡ n + 1 = omega (arith, c.loop-open-test.true) in
    let before = c.loop-open.invariant.same ∙ ap (λ k. closing r (take k ws) (part_stands t f at (left r at))) one in
    record {
      few = omega (arith, c.loop-open.invariant.few);
      same = before ∙ closes_one r ws n w lt c.index-waiting-open.is t f at (part_stands c.in_ok-part.part.typ c.in_ok-part.part.effect c.close.new.at (left r c.close.new.at)) c.in_ok-part.ensures;
    }
