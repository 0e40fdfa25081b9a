use Rattle.std.proofs.Common.{◌≡◌, ◌<◌, ◌+◌, ◌++◌, ◌∷◌, [], List, ℕ, true, false, ap, ◌∙◌, drop, length, rules}
use Rattle.wy_symbols.specs.declared.scoping.Meaning.{Meaning}
use Rattle.wy_symbols.specs.Meanings.{abstract_names, meaning_of}
use Rattle.wy_symbols.specs.Atoms.{meaning_set}
use Rattle.wy_heads.specs.ScopeHeads.{definitions_for}
use Rattle.wy_symbols.proofs.AbstractNames.{abstract_first, defined_first}
use Rattle.wy_symbols.proofs.Nexts.{added_turn, kept_turn}
use Rattle.wy_symbols.proofs.Turns.{next_of}
use Rattle.wy_heads.proofs.definitions.add_definitions.Goals as goal
use Rattle.wy_heads.proofs.definitions.add_definitions.Goals.{then-member+in_ok-meaning_set+in_ok-push, else-member}

pub loop-member-preserved : goal.loop-member-preserved
loop-member-preserved c =
    let members = c.args.members.now in
    let i = c.loop-member.member-index in
    let lt : i < length members = search rules in
    let x = c.member-item.result in
    let left = drop (i + 1) members in
    let f = λ (names : List (List ℕ)). definitions_for c.args.heads.now [] c.args.meanings.now names in
    let next = ap (λ (ms : List Meaning). f (abstract_names ms)) (next_of members i x lt c.member-item.is) in
    let old = c.loop-member.list in
    let new = c.if-member.list in
    elim c.if-member.branch [
      | then-member+in_ok-meaning_set+in_ok-push w ↦ (
          let yes : x.is_abstract ≡ true = search rules in
          added_turn old new (meaning_set (meaning_of c.args.meanings.now x.name) ∷ []) (f (abstract_names left)) (f (abstract_names (drop i members))) (c.args.list.now ++ f (abstract_names members))
          (search rules) (next ∙ ap f (abstract_first x left yes)) c.loop-member.invariant
          )
      | else-member w ↦ (
          let no : x.is_abstract ≡ false = search rules in
          kept_turn old new (f (abstract_names left)) (f (abstract_names (drop i members))) (c.args.list.now ++ f (abstract_names members))
          w.list-is (next ∙ ap f (defined_first x left no)) c.loop-member.invariant
          )
    ]
