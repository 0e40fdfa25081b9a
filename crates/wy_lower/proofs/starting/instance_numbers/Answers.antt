use Rattle.std.proofs.Common.{rules, ◌≡◌, length, ◌<◌, is_some, Some, cond, true, false, sym, ap, ◌∙◌}
use Rattle.std.specs.Prelude.{bytes_eq}
use Rattle.indexmap.specs.IndexMap.{get}
use Rattle.wy_types.specs.declared.linked.Instance.{Instance}
use Rattle.wy_lower.proofs.EmitPlaces.{place_kept, place_new, bytes_exact}
use Rattle.wy_lower.proofs.starting.instance_numbers.Goals as goal
use Rattle.wy_lower.proofs.starting.instance_numbers.Goals.{then-not-contains_key+in_ok-copy+in_ok-insert, else-not-contains_key}

pub loop-i-preserved : goal.loop-i-preserved
loop-i-preserved c =
    let xs = c.as_slice-instances.result.now in
    let i = c.loop-i.i in
    let x = c.index-instances-i.result in
    let name = λ (s : Instance). s.name in
    let lt : i < length xs = search rules in
    let at = c.index-instances-i.is in
    let here = ap (λ o. is_some o) (sym (c.loop-i.invariant x.name)) ∙ sym c.contains_key.ensures in
    elim c.if-not-contains_key.branch [
      | then-not-contains_key+in_ok-copy+in_ok-insert w ↦ λ q.
          let absent : c.contains_key.result ≡ false = search rules in
          ap (λ m. get bytes_eq m q) w.numbers-is ∙ w.in_ok-insert.ensures.updates.0 q
          ∙ ap (λ k. cond (bytes_eq k q) (Some i) (get bytes_eq c.loop-i.numbers q)) w.in_ok-copy.ensures
          ∙ ap (λ o. cond (bytes_eq x.name q) (Some i) o) (c.loop-i.invariant q)
          ∙ place_new bytes_eq bytes_exact name xs i x lt at (here ∙ absent) q
      | else-not-contains_key w ↦ λ q.
          let there : c.contains_key.result ≡ true = search rules in
          ap (λ m. get bytes_eq m q) w.numbers-is ∙ c.loop-i.invariant q
          ∙ place_kept bytes_eq bytes_exact name xs i x lt at (here ∙ there) q
    ]
