use Rattle.std.proofs.Common.{◌≡◌, ◌<◌, ◌+◌, ◌∷◌, [], true, false, ap, ◌∙◌, drop, length, rules}
use Rattle.wy_symbols.specs.Meanings.{abstract_bounds}
use Rattle.wy_symbols.proofs.AbstractBounds.{bound_first, no_bound_first}
use Rattle.wy_symbols.proofs.Nexts.{added_turn, kept_turn}
use Rattle.wy_symbols.proofs.Turns.{next_of}
use Rattle.wy_symbols.proofs.declarations.abstract_bounds.Goals as goal
use Rattle.wy_symbols.proofs.declarations.abstract_bounds.Goals.{then-member+in_ok-copy_bound+in_ok-push, else-member}

pub loop-member-preserved : goal.loop-member-preserved
loop-member-preserved c =
    let members = c.args.members.now in
    let i = c.loop-member.member-index in
    let lt : i < length members = search rules in
    let x = c.member-item.result in
    let left = drop (i + 1) members in
    let next = ap abstract_bounds (next_of members i x lt c.member-item.is) in
    let old = c.loop-member.bounds in
    let new = c.if-member.bounds in
    elim c.if-member.branch [
      | then-member+in_ok-copy_bound+in_ok-push w ↦ (
          let yes : x.is_abstract ≡ true = search rules in
          added_turn old new (x.bound ∷ []) (abstract_bounds left) (abstract_bounds (drop i members)) (abstract_bounds members)
          (search rules) (next ∙ bound_first x left yes) c.loop-member.invariant
          )
      | else-member w ↦ (
          let no : x.is_abstract ≡ false = search rules in
          kept_turn old new (abstract_bounds left) (abstract_bounds (drop i members)) (abstract_bounds members)
          w.bounds-is (next ∙ no_bound_first x left no) c.loop-member.invariant
          )
    ]
