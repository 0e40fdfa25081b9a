use Rattle.std.proofs.Common.{◌≡◌, ◌<◌, ◌+◌, ◌++◌, ◌∷◌, [], List, true, false, ap, ◌∙◌, drop, length, rules}
use Rattle.std.specs.Option.{option_map}
use Rattle.wy_effects.specs.EffSet.{replace}
use Rattle.wy_symbols.specs.declared.scoping.Meaning.{Meaning}
use Rattle.wy_symbols.specs.Meanings.{abstract_bounds}
use Rattle.wy_symbols.specs.Atoms.{bounds_at}
use Rattle.wy_symbols.proofs.AbstractBounds.{bound_first, no_bound_first}
use Rattle.wy_symbols.proofs.Nexts.{added_turn, kept_turn}
use Rattle.wy_symbols.proofs.Turns.{next_of}
use Rattle.wy_symbols.proofs.atoms.add_member_bounds.Goals as goal
use Rattle.wy_symbols.proofs.atoms.add_member_bounds.Goals.{then-member+in_ok-bound_at+in_ok-push, else-member}

pub loop-member-preserved : goal.loop-member-preserved
loop-member-preserved c =
    let members = c.args.members.now in
    let i = c.loop-member.member-index in
    let lt : i < length members = search rules in
    let x = c.member-item.result in
    let left = drop (i + 1) members in
    let sets = c.args.sets.now in
    let f = λ (ms : List Meaning). bounds_at sets (abstract_bounds ms) in
    let next = ap f (next_of members i x lt c.member-item.is) in
    let old = c.loop-member.bounds in
    let new = c.if-member.bounds in
    let whole = c.args.bounds.now ++ f members in
    elim c.if-member.branch [
      | then-member+in_ok-bound_at+in_ok-push w ↦ (
          let yes : x.is_abstract ≡ true = search rules in
          added_turn old new (option_map (replace sets) x.bound ∷ []) (f left) (f (drop i members)) whole
          (search rules) (next ∙ ap (bounds_at sets) (bound_first x left yes)) c.loop-member.invariant
          )
      | else-member w ↦ (
          let no : x.is_abstract ≡ false = search rules in
          kept_turn old new (f left) (f (drop i members)) whole
          w.bounds-is (next ∙ ap (bounds_at sets) (no_bound_first x left no)) c.loop-member.invariant
          )
    ]
