use Rattle.std.proofs.Common.{◌≡◌, ◌+◌, ℕ, get_or, List, ◌++◌, ◌∷◌, [], ◌∙◌, ap, map, take, subst, sym}
use Rattle.std.proofs.lemmas.List.{take_more, map-append}
use Rattle.wy_subtype.specs.declared.unfolding.UnfoldedPair.{UnfoldedPair}
use Rattle.wy_subtype.specs.Steps.{Pair}
use Rattle.wy_subtype.specs.Unfolding.{sides}
use Rattle.wy_subtype.specs.Nodes.{node_pair, AreNumbersOf}
use Rattle.wy_subtype.proofs.Knowing.{more_none, more_trans, more_continues}
use Rattle.wy_subtype.proofs.Meeting.{numbers_none, numbers_more}
use Rattle.wy_subtype.proofs.nodes.Nodes.numbers_of.Goals as goal

pub loop-pair-init : goal.loop-pair-init
loop-pair-init c = record { more = more_none c.args.self.now; numbers = (let P : List ℕ → Type 0 = λ l. AreNumbersOf (map node_pair c.args.self.now) [] l in subst P (sym c.new-numbers.ensures) (numbers_none (map node_pair c.args.self.now))) }

pub returns-in_err-add_number-clause-more : goal.returns-in_err-add_number-clause-more
returns-in_err-add_number-clause-more c = more_trans c.args.self.now c.loop-pair.self c.add_number.new.self c.loop-pair.invariant.more c.add_number.ensures.more

pub loop-pair-preserved : goal.loop-pair-preserved
loop-pair-preserved c =
    let xs : List UnfoldedPair = c.args.asked.now in
    let i : ℕ = c.loop-pair.pair-index in
    let x : UnfoldedPair = c.pair-item.result in
    let old : List Pair = map node_pair c.loop-pair.self in
    let new : List Pair = map node_pair c.add_number.new.self in
    let taken : map sides (take (i + 1) xs) ≡ map sides (take i xs) ++ sides x ∷ [] =
    ap (map sides) (take_more xs i x c.loop-pair-test.true) ∙ map-append sides (take i xs) (get_or xs i x ∷ []) ∙ ap (λ (v : UnfoldedPair). map sides (take i xs) ++ sides v ∷ []) (sym c.pair-item.is) in
    let P : List Pair → Type 0 = λ l. AreNumbersOf new l c.add_number.new.numbers in
    record {
      more = more_trans c.args.self.now c.loop-pair.self c.add_number.new.self c.loop-pair.invariant.more c.add_number.ensures.more;
      numbers = subst P (sym taken) (numbers_more old new (map sides (take i xs)) (sides x) c.loop-pair.numbers c.add_number.new.numbers (more_continues c.loop-pair.self c.add_number.new.self c.add_number.ensures.more)
          c.loop-pair.invariant.numbers c.in_ok-add_number.ensures.numbered);
    }
