use Rattle.std.proofs.Common.{[], List, ap, ◌∙◌, subst, refl, map}
use Rattle.wy_symbols.specs.declared.scoping.Head.{Head}
use Rattle.wy_symbols.specs.Least.{noted}
use Rattle.wy_symbols.specs.Atoms.{AtomScope}
use Rattle.wy_names.specs.ScopeParts.{ArePartsOfModule, scope_with}
use Rattle.wy_names.specs.Scopes.{scope_of_module, module_refusals}
use Rattle.wy_symbols.specs.Lent.{module_tree}
use Rattle.wy_names.proofs.ScopesMade.{scope_by_parts, place_same}
use Rattle.wy_names.proofs.scopes.module_scope.Goals as goal

pub returns-clause-scope : goal.returns-clause-scope
returns-clause-scope c =
    let heads = c.args.heads.now in
    let modules = map module_tree c.args.modules.now in
    let m = module_tree c.args.view.now in
    let seen = ap (λ (s : AtomScope). s.heads) c.in_ok-owners.ensures in
    let P : List Head → Type 0 = λ h. ArePartsOfModule h modules m c.in_ok-parts.parts in
    let parts = subst P seen c.in_ok-parts.ensures.parts in
    c.scope_with.ensures
    ∙ scope_by_parts (scope_with c.args.view.now.kind c.in_ok-name.name c.args.view.now.name.now.place c.into_atoms-atoms.result c.number-ascribed.result c.start_place-at.result c.in_ok-parts.parts) (scope_of_module heads modules m) refl c.in_ok-name.ensures refl
    (c.into_atoms-atoms.ensures ∙ ap (λ (s : AtomScope). s.atoms) c.in_ok-owners.ensures)
    parts.bounds parts.names c.number-ascribed.ensures parts.definitions parts.literals
    (c.start_place-at.ensures ∙ place_same [] heads [] modules m m.init) parts.effect parts.start parts.bodies

pub returns-clause-noted : goal.returns-clause-noted
returns-clause-noted c =
    let modules = map module_tree c.args.modules.now in
    let m = module_tree c.args.view.now in
    let seen = ap (λ (s : AtomScope). s.heads) c.in_ok-owners.ensures in
    c.in_ok-parts.ensures.noted ∙ ap (λ h. noted c.args.least.now (module_refusals h modules m)) seen
