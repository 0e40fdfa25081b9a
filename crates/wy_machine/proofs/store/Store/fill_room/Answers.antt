use Rattle.std.proofs.Common.{◌≡◌, ℕ, ◌+◌, ◌-◌, ◌<◌, List, [], ◌∷◌, ◌++◌, length, take, sym, ap, ◌∙◌, subst, arith}
use Rattle.wy_machine.specs.StoreState.{StoreState}
use Rattle.wy_machine.proofs.Cuts.{set_last}
use Rattle.wy_machine.proofs.store.Store.fill_room.Goals as goal

pub returns : goal.returns
returns c =
    let s = c.self.inside in
    let texts : List (List ℕ) = s.texts.items in
    let with_texts = λ (texts : List (List ℕ)). let w : StoreState = record { objects = s.objects.items; made = s.made; texts = texts; next = s.next; first = s.first.items } in w in
    let some = subst (λ (w : StoreState). 0 < length w.texts) (sym c.self.view_is) c.requires in
    let n : c.len-at.result - 1 ≡ length texts - 1 = ap (λ n. n - 1) (c.len-at.ensures ∙ s.texts.ok.0) in
    let size : length texts ≡ c.len-at.result - 1 + 1 = omega arith in
    ap with_texts (set_last texts (c.len-at.result - 1) c.args.text size ∙ ap (λ n. take n texts ++ c.args.text ∷ []) n)
    ∙ ap (λ (w : StoreState). let v : StoreState = record w { texts = take (length w.texts - 1) w.texts ++ c.args.text ∷ [] } in v) c.self.view_is
