use Rattle.std.proofs.Common.{◌++◌, [], ◌∷◌, ◌+◌, ◌<◌, rules, drop, length, subst, List, ◌∙◌}
use Rattle.wy_symbols.specs.declared.scoping.Meaning.{Meaning}
use Rattle.wy_symbols.proofs.MembersOpened.{Opens, moved, turn_abstract, turn_defined}
use Rattle.wy_symbols.proofs.Turns.{next_of}
use Rattle.wy_symbols.proofs.atoms.open_members.Goals as goal
use Rattle.wy_symbols.proofs.atoms.open_members.Goals.{then-member+in_ok-atom+in_ok-add_single, else-member}

pub loop-member-preserved : goal.loop-member-preserved
loop-member-preserved c =
    let lt : c.loop-member.member-index < length c.args.members.now = search rules in
    let P : List Meaning → Type 0 = λ ms. Opens c.args.atoms.now c.args.owner.now c.args.members.now c.loop-member.atoms c.loop-member.sets ms in
    let left = drop (c.loop-member.member-index + 1) c.args.members.now in
    let h = subst P (next_of c.args.members.now c.loop-member.member-index c.member-item.result lt c.member-item.is) c.loop-member.invariant in
    elim c.if-member.branch [
      | then-member+in_ok-atom+in_ok-add_single w ↦ (
          let turned = turn_abstract c.args.atoms.now c.args.owner.now c.args.members.now c.loop-member.atoms w.add_atom.new.atoms c.loop-member.sets
          c.member-item.result left w.in_ok-atom.atom.0 (search rules) w.in_ok-atom.ensures.put w.in_ok-atom.ensures.number h in
          moved c.args.atoms.now c.args.owner.now c.args.members.now c.if-member.atoms w.add_atom.new.atoms c.if-member.sets
          (c.loop-member.sets ++ (w.in_ok-atom.atom.0 ∷ []) ∷ []) left w.atoms-is (w.sets-is ∙ w.in_ok-add_single.ensures) turned
          )
      | else-member w ↦ (
          let turned = turn_defined c.args.atoms.now c.args.owner.now c.args.members.now c.loop-member.atoms c.loop-member.sets c.member-item.result left (search rules) h in
          moved c.args.atoms.now c.args.owner.now c.args.members.now c.if-member.atoms c.loop-member.atoms c.if-member.sets c.loop-member.sets
          left w.atoms-is w.sets-is turned
          )
    ]
