use Rattle.std.proofs.Common.{rules, ◌≡◌, length, ◌<◌, is_some, Some, cond, true, false, sym, ap, ◌∙◌}
use Rattle.indexmap.specs.IndexMap.{get}
use Rattle.wy_symbols.specs.Declarations.{same_name}
use Rattle.wy_symbols.proofs.Firsts.{first_kept, first_new}
use Rattle.wy_symbols.proofs.tables.first_numbers.Goals as goal
use Rattle.wy_symbols.proofs.tables.first_numbers.Goals.{then-not-contains_key+in_ok-copy+in_ok-insert, else-not-contains_key}

pub loop-i-preserved : goal.loop-i-preserved
loop-i-preserved c =
    let lt : c.loop-i.i < length c.args.names.now = search rules in
    let here = ap (λ o. is_some o) (sym (c.loop-i.invariant c.index-names-i.result)) ∙ sym c.contains_key.ensures in
    elim c.if-not-contains_key.branch [
      | then-not-contains_key+in_ok-copy+in_ok-insert w ↦ λ x.
          let absent : c.contains_key.result ≡ false = search rules in
          ap (λ m. get same_name m x) w.map-is ∙ w.in_ok-insert.ensures.updates.0 x
          ∙ ap (λ y. cond (same_name y x) (Some c.loop-i.i) (get same_name c.loop-i.map x)) w.in_ok-copy.ensures
          ∙ ap (λ o. cond (same_name c.index-names-i.result x) (Some c.loop-i.i) o) (c.loop-i.invariant x)
          ∙ first_new c.args.names.now c.loop-i.i c.index-names-i.result lt c.index-names-i.is (here ∙ absent) x
      | else-not-contains_key w ↦ λ x.
          let there : c.contains_key.result ≡ true = search rules in
          ap (λ m. get same_name m x) w.map-is ∙ c.loop-i.invariant x
          ∙ first_kept c.args.names.now c.loop-i.i c.index-names-i.result lt c.index-names-i.is (here ∙ there) x
    ]
