use Rattle.std.proofs.Common.{[], ◌+◌, ◌<◌, ◌++◌, List, map, rules, drop, length, subst, ap, ◌∙◌, sym}
use Rattle.std.proofs.lemmas.List.{append-nil, at_drop_all}
use Rattle.wy_symbols.specs.declared.scoping.Owner.{Owner}
use Rattle.wy_symbols.specs.declared.atom_scope.Opened.{Opened}
use Rattle.wy_symbols.specs.Atoms.{owner_sets, opened_names, with_owners, owner_names}
use Rattle.wy_symbols.proofs.Filling.{Fills, turn}
use Rattle.wy_symbols.proofs.Turns.{next_of}
use Rattle.wy_symbols.proofs.atom_scope.add_owners.Goals as goal

pub loop-owner-preserved : goal.loop-owner-preserved
loop-owner-preserved c =
    let lt : c.loop-owner.owner-index < length c.args.owners.now = search rules in
    let P : List Owner → Type 0 = λ os. Fills c.args.heads.now c.args.owners.now c.loop-owner.atoms c.loop-owner.list.items c.loop-owner.names.items os in
    let left = drop (c.loop-owner.owner-index + 1) c.args.owners.now in
    let h = subst P (next_of c.args.owners.now c.loop-owner.owner-index c.owner-item.result lt c.owner-item.is) c.loop-owner.invariant in
    turn c.args.heads.now c.args.owners.now c.loop-owner.atoms c.open.new.atoms c.loop-owner.list.items c.add_owner.new.list.items
    c.loop-owner.names.items c.add_owner.new.names.items c.owner-item.result c.in_ok-sets.sets left
    c.in_ok-sets.ensures.put c.in_ok-sets.ensures.sets c.in_ok-add_owner.ensures.list c.in_ok-add_owner.ensures.names h

pub returns-clause-sets : goal.returns-clause-sets
returns-clause-sets c = λ p i.
    ap (λ x. owner_sets x p.owner.name (opened_names c.args.heads.now p.owner.opening)) (sym (append-nil c.loop-owner.atoms))
    ∙ c.loop-owner.invariant.sets p i []

pub returns-clause-atoms : goal.returns-clause-atoms
returns-clause-atoms c =
    sym (at_drop_all (with_owners c.args.heads.now c.loop-owner.atoms) c.args.owners.now c.loop-owner.owner-index c.loop-owner-test.false)
    ∙ c.loop-owner.invariant.put

pub returns-clause-owners : goal.returns-clause-owners
returns-clause-owners c =
    let owners : List Owner = map (λ (p : Opened). p.owner) c.loop-owner.list.items in
    sym (append-nil owners) ∙ sym (at_drop_all (λ l. owners ++ l) c.args.owners.now c.loop-owner.owner-index c.loop-owner-test.false)
    ∙ c.loop-owner.invariant.owners

pub returns-clause-names : goal.returns-clause-names
returns-clause-names c = c.loop-owner.invariant.named ∙ ap owner_names (returns-clause-owners c)
