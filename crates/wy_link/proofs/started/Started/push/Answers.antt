use Rattle.std.proofs.Common.{rules, ◌≡◌, ◌++◌, ◌∷◌, [], length, is_some, Some, cond, true, false, sym, ap, ◌∙◌}
use Rattle.std.specs.Prelude.{bytes_eq}
use Rattle.indexmap.specs.IndexMap.{get}
use Rattle.wy_types.specs.Ground.{number_from}
use Rattle.wy_link.proofs.FirstNames.{number_kept, number_new}
use Rattle.wy_link.proofs.started.Started.push.Goals as goal
use Rattle.wy_link.proofs.started.Started.push.Goals.{then-not-contains_key+in_ok-copy+in_ok-insert, else-not-contains_key}

pub invariant_of-self-2 : goal.invariant_of-self-2
invariant_of-self-2 c =
    let xs = c.self.inside.instances.items in
    let x = c.args.instance in
    let kept = ap (λ l. l ++ x ∷ []) c.in_ok-reserve.ensures.items in
    let here = ap (λ o. is_some o) (sym (c.self.invariant x.name)) ∙ sym c.contains_key.ensures in
    elim c.if-not-contains_key.branch [
      | then-not-contains_key+in_ok-copy+in_ok-insert w ↦ λ q.
          let whole = c.in_ok-push.ensures.items ∙ ap (λ i. i.instances.items ++ x ∷ []) w.self-inside-is ∙ kept in
          let number : w.len-number.result ≡ length xs = search rules in
          let absent : c.contains_key.result ≡ false = search rules in
          ap (λ i. get bytes_eq i.numbers q) w.self-inside-is ∙ w.in_ok-insert.ensures.updates.0 q
          ∙ ap (λ k. cond (bytes_eq k q) (Some (w.len-number.result)) (get bytes_eq c.self.inside.numbers q)) w.in_ok-copy.ensures
          ∙ ap (λ n. cond (bytes_eq x.name q) (Some n) (get bytes_eq c.self.inside.numbers q)) number
          ∙ ap (λ o. cond (bytes_eq x.name q) (Some (length xs)) o) (c.self.invariant q)
          ∙ number_new xs x (here ∙ absent) q ∙ ap (number_from 0 q) (sym whole)
      | else-not-contains_key w ↦ λ q.
          let whole = c.in_ok-push.ensures.items ∙ ap (λ i. i.instances.items ++ x ∷ []) w.self-inside-is ∙ kept in
          let there : c.contains_key.result ≡ true = search rules in
          ap (λ i. get bytes_eq i.numbers q) w.self-inside-is ∙ c.self.invariant q
          ∙ number_kept xs x (here ∙ there) q ∙ ap (number_from 0 q) (sym whole)
    ]
