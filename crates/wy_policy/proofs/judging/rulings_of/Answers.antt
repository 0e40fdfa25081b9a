use Rattle.std.proofs.Common.{[], ◌∷◌, ◌++◌, take, sym, ap, ap₂, ◌∙◌}
use Rattle.std.proofs.lemmas.List.{take_more}
use Rattle.wy_policy.proofs.judging.rulings_of.Goals as goal

pub loop-row-preserved : goal.loop-row-preserved
loop-row-preserved c =
    let xs = c.args.rows.now in
    let i = c.loop-row.row-index in
    let x = c.row-item.result in
    c.in_ok-push.ensures.ok ∙ ap₂ (λ l r. l ++ r ∷ []) c.loop-row.invariant c.in_ok-new.ensures
    ∙ sym (take_more xs i x c.loop-row-test.true ∙ ap (λ y. take i xs ++ y ∷ []) (sym c.row-item.is))
