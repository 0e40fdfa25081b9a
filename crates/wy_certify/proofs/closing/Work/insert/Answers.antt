use Rattle.std.proofs.Common.{List, ◌∷◌, [], ◌++◌, ◌∙◌, sym, ap, subst, map}
use Rattle.wy_proving.specs.Certified.{Pair}
use Rattle.wy_recheck.specs.PairSet.{StandsFor}
use Rattle.wy_certify.specs.declared.closing.Work.{Work}
use Rattle.wy_certify.specs.Pair.{pair_of}
use Rattle.wy_certify.specs.Closed.{IsGrown}
use Rattle.wy_certify.proofs.RulesAsked.{pair_pushed}
use Rattle.wy_certify.proofs.PairsGrowing.{grown_present, grown_last}
use Rattle.wy_certify.proofs.PairsMet.{key_met, key_new, keys_kept, keys_more, not_there, is_there}
use Rattle.wy_certify.proofs.closing.Work.insert.Goals as goal

pub returns-in_ok-push-clause-kept : goal.returns-in_ok-push-clause-kept
returns-in_ok-push-clause-kept c =
    let w : Work = c.args.self.now in
    let q : Pair = (c.args.left.now, c.args.right.now) in
    let pairs : List Pair = map pair_of w.pairs in
    let more = pair_pushed w.pairs c.push.new.self c.in_ok-copied_pair.field-0 c.in_ok-push.ensures.ok ∙ ap (λ (p : Pair). pairs ++ p ∷ []) c.in_ok-copied_pair.ensures in
    subst (λ (l : List Pair). StandsFor c.insert.new.self.keys l) (sym more) (keys_more w.keys.keys q c.in_ok-key.key c.in_ok-key.ensures pairs c.requires.kept c.insert.new.self.keys c.in_ok-insert.ensures.keys)

pub returns-in_ok-push-clause-grown : goal.returns-in_ok-push-clause-grown
returns-in_ok-push-clause-grown c =
    let w : Work = c.args.self.now in
    let q : Pair = (c.args.left.now, c.args.right.now) in
    let pairs : List Pair = map pair_of w.pairs in
    let more = pair_pushed w.pairs c.push.new.self c.in_ok-copied_pair.field-0 c.in_ok-push.ensures.ok ∙ ap (λ (p : Pair). pairs ++ p ∷ []) c.in_ok-copied_pair.ensures in
    let new = not_there _ (sym c.in_ok-insert.ensures.added ∙ c.if-branch.true) in
    subst (λ (l : List Pair). IsGrown (q ∷ []) pairs l) (sym more) (grown_last q pairs (key_new w.keys.keys q c.in_ok-key.key c.in_ok-key.ensures pairs c.requires.kept new))

pub returns-else-branch-clause-kept : goal.returns-else-branch-clause-kept
returns-else-branch-clause-kept c =
    let w : Work = c.args.self.now in
    let there = is_there _ (sym c.in_ok-insert.ensures.added ∙ c.if-branch.false) in
    keys_kept w.keys.keys (c.args.left.now, c.args.right.now) c.in_ok-key.key c.in_ok-key.ensures (map pair_of w.pairs) c.requires.kept c.insert.new.self.keys c.in_ok-insert.ensures.keys there

pub returns-else-branch-clause-grown : goal.returns-else-branch-clause-grown
returns-else-branch-clause-grown c =
    let w : Work = c.args.self.now in
    let q : Pair = (c.args.left.now, c.args.right.now) in
    let pairs : List Pair = map pair_of w.pairs in
    let there = is_there _ (sym c.in_ok-insert.ensures.added ∙ c.if-branch.false) in
    grown_present q pairs (key_met w.keys.keys q c.in_ok-key.key c.in_ok-key.ensures pairs c.requires.kept there)
