use Rattle.std.proofs.Common.{◌≡◌, ◌∙◌, ℕ, List, take, length, sym, ap, subst, arith}
use Rattle.wy_verified.specs.Kinds.{Pair}
use Rattle.wy_verify.specs.Closing.{IsGrown, exchanged}
use Rattle.wy_verify.proofs.Covering.{grown_none, grown_more, take_read, exchanged_at, exchanged_whole}
use Rattle.wy_verify.proofs.Standing.{next_number}
use Rattle.wy_verify.proofs.pairs.Pairs.add_parameters.Goals as goal

pub loop-at-init : goal.loop-at-init
loop-at-init c = grown_none c.args.self.now

pub loop-at-preserved : goal.loop-at-preserved
loop-at-preserved c =
    let asked = exchanged c.args.left.now.params c.args.right.now.params in
    let at = c.loop-at.at in
    let one : Pair = (c.parameter-asked.result, c.parameter-found.result) in
    let read = exchanged_at c.args.left.now.params c.args.right.now.params at c.parameter-found.result c.parameter-asked.result c.parameter-found.ensures c.parameter-asked.ensures in
    subst (λ (l : List Pair). IsGrown c.args.self.now c.add.new.self l) (sym (ap (λ (n : ℕ). take n asked) (sym (next_number at)) ∙ take_read asked at one read))
    (grown_more c.args.self.now c.loop-at.self c.add.new.self (take at asked) one c.loop-at.invariant c.in_ok-add.ensures)

pub returns : goal.returns
returns c =
    let asked = exchanged c.args.left.now.params c.args.right.now.params in
    let e = c.parameter_count-count.ensures in
    let n : c.loop-at.at ≡ length c.args.left.now.params = omega (arith, e) in
    subst (λ (l : List Pair). IsGrown c.args.self.now c.loop-at.self l) (ap (λ (n : ℕ). take n asked) n ∙ exchanged_whole c.args.left.now.params c.args.right.now.params) c.loop-at.invariant
