use Rattle.std.proofs.Common.{List, ℕ, ◌∷◌, [], ◌++◌, ◌+◌, ◌∙◌, drop, sym, ap, append_assoc}
use Rattle.std.proofs.lemmas.List.{at_drop_more}
use Rattle.wy_types.specs.Keys.{set_key, sets_key}
use Rattle.wy_types.proofs.key.add_sets.Goals as goal

pub loop-set-preserved : goal.loop-set-preserved
loop-set-preserved c =
    let sets : List (List ℕ) = c.args.sets.now in
    let later : List (List ℕ) = drop (c.loop-set.set-index + 1) sets in
    let before : List ℕ = c.loop-set.out.items in
    let key : List ℕ = set_key c.set-item.result in
    let rest : List ℕ = sets_key later in
    ap (λ (l : List ℕ). l ++ rest) (c.in_ok-add_set.ensures ∙ ap (λ (l : List ℕ). l ++ key) c.in_ok-push.ensures.items) ∙
    append_assoc (before ++ 1 ∷ []) key rest ∙ append_assoc before (1 ∷ []) (key ++ rest) ∙
    ap (λ (l : List ℕ). before ++ l) (sym (at_drop_more sets_key sets c.loop-set.set-index c.set-item.result c.loop-set-test.true ∙ ap (λ (s : List ℕ). sets_key (s ∷ later)) (sym c.set-item.is))) ∙
    c.loop-set.invariant
