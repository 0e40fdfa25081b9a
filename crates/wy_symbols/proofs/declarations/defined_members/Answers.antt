use Rattle.std.proofs.Common.{◌≡◌, ◌<◌, ◌+◌, ◌∷◌, [], Bool, true, false, ap, ◌∙◌, drop, length, rules, if◌then◌else◌}
use Rattle.wy_types.specs.declared.resolved.DefinedMember.{DefinedMember}
use Rattle.wy_symbols.specs.TypeUses.{defined_members}
use Rattle.wy_symbols.proofs.Nexts.{added_turn, kept_turn}
use Rattle.wy_symbols.proofs.Turns.{next_of}
use Rattle.wy_symbols.proofs.declarations.defined_members.Goals as goal
use Rattle.wy_symbols.proofs.declarations.defined_members.Goals.{then-not-member+in_ok-copy+in_ok-copy-2+in_ok-push, else-not-member}

pub loop-member-preserved : goal.loop-member-preserved
loop-member-preserved c =
    let members = c.args.members.now in
    let i = c.loop-member.member-index in
    let lt : i < length members = search rules in
    let x = c.member-item.result in
    let left = drop (i + 1) members in
    let made : DefinedMember = record { name = x.name; effects = x.atoms } in
    let next = ap defined_members (next_of members i x lt c.member-item.is) in
    let choose = λ (b : Bool). if b then defined_members left else made ∷ defined_members left in
    let old = c.loop-member.defined in
    let new = c.if-not-member.defined in
    elim c.if-not-member.branch [
      | then-not-member+in_ok-copy+in_ok-copy-2+in_ok-push w ↦ (
          let no : x.is_abstract ≡ false = search rules in
          added_turn old new (made ∷ []) (defined_members left) (defined_members (drop i members)) (defined_members members)
          (search rules) (next ∙ ap choose no) c.loop-member.invariant
          )
      | else-not-member w ↦ (
          let yes : x.is_abstract ≡ true = search rules in
          kept_turn old new (defined_members left) (defined_members (drop i members)) (defined_members members)
          w.defined-is (next ∙ ap choose yes) c.loop-member.invariant
          )
    ]
