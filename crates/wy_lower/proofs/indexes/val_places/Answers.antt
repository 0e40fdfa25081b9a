use Rattle.std.proofs.Common.{rules, ◌≡◌, length, ◌<◌, get_or, is_some, Some, cond, ℕ, true, false, sym, ap, ◌∙◌, nat_eq}
use Rattle.indexmap.specs.IndexMap.{get}
use Rattle.wy_lower.proofs.EmitLists.{read_any}
use Rattle.wy_lower.proofs.EmitPlaces.{place_kept, place_new, nat_exact}
use Rattle.wy_lower.proofs.indexes.val_places.Goals as goal
use Rattle.wy_lower.proofs.indexes.val_places.Goals.{then-not-contains_key+in_ok-insert, else-not-contains_key}

pub loop-i-preserved : goal.loop-i-preserved
loop-i-preserved c =
    let ns = c.args.numbers.now in
    let i = c.loop-i.i in
    let n = get_or ns i 0 in
    let lt : i < length ns = search rules in
    let at = read_any ns i 0 n lt in
    let here = ap (λ o. is_some o) (sym (c.loop-i.invariant n)) ∙ sym c.contains_key.ensures in
    let id = λ (k : ℕ). k in
    elim c.if-not-contains_key.branch [
      | then-not-contains_key+in_ok-insert w ↦ λ q.
          let absent : c.contains_key.result ≡ false = search rules in
          ap (λ m. get nat_eq m q) w.places-is ∙ w.in_ok-insert.ensures.updates.0 q
          ∙ ap (λ o. cond (nat_eq n q) (Some i) o) (c.loop-i.invariant q)
          ∙ place_new nat_eq nat_exact id ns i n lt at (here ∙ absent) q
      | else-not-contains_key w ↦ λ q.
          let there : c.contains_key.result ≡ true = search rules in
          ap (λ m. get nat_eq m q) w.places-is ∙ c.loop-i.invariant q
          ∙ place_kept nat_eq nat_exact id ns i n lt at (here ∙ there) q
    ]
