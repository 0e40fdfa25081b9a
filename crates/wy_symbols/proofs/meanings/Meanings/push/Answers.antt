use Rattle.std.proofs.Common.{◌≡◌, [], ◌∷◌, ◌++◌, length, is_some, Some, cond, true, false, sym, ap, ◌∙◌, rules}
use Rattle.std.specs.Prelude.{ℕ}
use Rattle.std.proofs.lemmas.List.{map-append, length-map}
use Rattle.indexmap.specs.IndexMap.{get}
use Rattle.wy_symbols.specs.declared.meanings.Meanings.TheInside.{Inside}
use Rattle.wy_symbols.specs.declared.scoping.Meaning.{Meaning}
use Rattle.wy_symbols.specs.Declarations.{same_name, first_from}
use Rattle.wy_symbols.specs.Meanings.{meaning_names}
use Rattle.wy_symbols.proofs.Firsts.{first_again, first_put}
use Rattle.wy_symbols.proofs.meanings.Meanings.push.Goals as goal
use Rattle.wy_symbols.proofs.meanings.Meanings.push.Goals.{then-not-contains_key+in_ok-copy+in_ok-insert, else-not-contains_key}

pub invariant_of-self-2 : goal.invariant_of-self-2
invariant_of-self-2 c =
    let ms = c.self.inside.list.items in
    let n = c.args.meaning in
    let more : meaning_names ms ++ n.name ∷ [] ≡ meaning_names c.push_reserved.new.self.items =
    sym (map-append (λ (m : Meaning). m.name) ms (n ∷ [])) ∙ ap meaning_names (search rules) in
    let here = ap (λ o. is_some o) (sym (c.self.invariant n.name)) ∙ sym c.contains_key.ensures in
    let number : c.len-number.result ≡ length (meaning_names ms) = search (length-map, rules) in
    elim c.if-not-contains_key.branch [
      | then-not-contains_key+in_ok-copy+in_ok-insert w ↦ λ x.
          let absent : c.contains_key.result ≡ false = search rules in
          ap (λ (f : Inside). get same_name f.numbers x) w.self-inside-is ∙ w.in_ok-insert.ensures.updates.0 x
          ∙ ap (λ y. cond (same_name y x) (Some c.len-number.result) (get same_name c.self.inside.numbers x)) w.in_ok-copy.ensures
          ∙ ap (λ o. cond (same_name n.name x) (Some c.len-number.result) o) (c.self.invariant x)
          ∙ ap (λ (k : ℕ). cond (same_name n.name x) (Some k) (first_from 0 (meaning_names ms) x)) number
          ∙ first_put (meaning_names ms) n.name (here ∙ absent) x
          ∙ ap (λ l. first_from 0 l x) more
      | else-not-contains_key w ↦ λ x.
          let there : c.contains_key.result ≡ true = search rules in
          ap (λ (f : Inside). get same_name f.numbers x) w.self-inside-is ∙ c.self.invariant x
          ∙ first_again (meaning_names ms) n.name (here ∙ there) x
          ∙ ap (λ l. first_from 0 l x) more
    ]
