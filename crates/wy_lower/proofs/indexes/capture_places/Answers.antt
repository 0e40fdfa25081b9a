use Rattle.std.proofs.Common.{rules, ◌≡◌, length, ◌<◌, get_or, is_some, Some, cond, true, false, sym, ap, ◌∙◌}
use Rattle.indexmap.specs.IndexMap.{get}
use Rattle.wy_types.specs.declared.code.Variable.TheVariants.{Local}
use Rattle.wy_lower.specs.EmitIndexes.{key_of, same_key}
use Rattle.wy_lower.proofs.EmitLists.{read_any}
use Rattle.wy_lower.proofs.EmitPlaces.{place_kept, place_new, key_exact}
use Rattle.wy_lower.proofs.indexes.capture_places.Goals as goal
use Rattle.wy_lower.proofs.indexes.capture_places.Goals.{then-not-contains_key+in_ok-insert, else-not-contains_key}

pub loop-i-preserved : goal.loop-i-preserved
loop-i-preserved c =
    let xs = c.args.variables.now in
    let i = c.loop-i.i in
    let x = get_or xs i (Local 0) in
    let lt : i < length xs = search rules in
    let at = read_any xs i (Local 0) x lt in
    let key = c.key_of-key.ensures ∙ ap key_of (read_any xs i _ (Local 0) lt) in
    let here = ap (λ o. is_some o) (sym (c.loop-i.invariant (key_of x)) ∙ ap (λ k. get same_key c.loop-i.places k) (sym key)) ∙ sym c.contains_key.ensures in
    elim c.if-not-contains_key.branch [
      | then-not-contains_key+in_ok-insert w ↦ λ q.
          let absent : c.contains_key.result ≡ false = search rules in
          ap (λ m. get same_key m q) w.places-is ∙ w.in_ok-insert.ensures.updates.0 q
          ∙ ap (λ k. cond (same_key k q) (Some i) (get same_key c.loop-i.places q)) key
          ∙ ap (λ o. cond (same_key (key_of x) q) (Some i) o) (c.loop-i.invariant q)
          ∙ place_new same_key key_exact key_of xs i x lt at (here ∙ absent) q
      | else-not-contains_key w ↦ λ q.
          let there : c.contains_key.result ≡ true = search rules in
          ap (λ m. get same_key m q) w.places-is ∙ c.loop-i.invariant q
          ∙ place_kept same_key key_exact key_of xs i x lt at (here ∙ there) q
    ]
