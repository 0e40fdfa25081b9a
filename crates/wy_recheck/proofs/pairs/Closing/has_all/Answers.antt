use Rattle.std.proofs.Common.{◌≡◌, List, true, false, subst}
use Rattle.wy_text.specs.Members.{In}
use Rattle.wy_text.proofs.Lists.{In-read, each_more}
use Rattle.wy_subtype.specs.declared.unfolding.UnfoldedPair.{UnfoldedPair}
use Rattle.wy_subtype.specs.Unfolding.{sides}
use Rattle.wy_proving.specs.Certified.{Pair}
use Rattle.wy_recheck.specs.Closing.{looked_up}
use Rattle.wy_recheck.proofs.Telling.{tells_not, not_told}
use Rattle.wy_recheck.proofs.pairs.Closing.has_all.Goals as goal

pub returns-then-not-branch : goal.returns-then-not-branch
returns-then-not-branch c =
    let keys = c.args.self.now.listed.now in
    let mode = c.args.self.now.mode in
    let asked : List UnfoldedPair = c.args.asked.now in
    let x : UnfoldedPair = c.pair-item.result in
    let f : c.in_ok-has.field-0 ≡ false = c.if-not-branch.true in
    tells_not keys (λ pairs. (u : UnfoldedPair) → In u asked → In {X = Pair} (looked_up mode (sides u)) pairs)
    (λ pairs st all. not_told keys (λ ps. In {X = Pair} (looked_up mode (sides x)) ps) c.in_ok-has.field-0 f c.in_ok-has.ensures pairs st (all x (In-read asked c.loop-pair.pair-index x x c.loop-pair-test.true c.pair-item.is)))

pub loop-pair-preserved : goal.loop-pair-preserved
loop-pair-preserved c = λ pairs st.
    let asked : List UnfoldedPair = c.args.asked.now in
    let x : UnfoldedPair = c.pair-item.result in
    let P : UnfoldedPair → Type 0 = λ v. In {X = Pair} (looked_up c.args.self.now.mode (sides v)) pairs in
    let t : c.in_ok-has.field-0 ≡ true = c.if-not-branch.false in
    each_more P asked c.loop-pair.pair-index x c.loop-pair-test.true (c.loop-pair.invariant pairs st) (subst P c.pair-item.is ((c.in_ok-has.ensures pairs st).0 t))
