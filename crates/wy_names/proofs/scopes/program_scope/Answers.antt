use Rattle.std.proofs.Common.{◌≡◌, List, ap, ◌∙◌, subst, rules, refl, None, map}
use Rattle.wy_types.specs.declared.resolved.ScopeKind.TheVariants.{Program}
use Rattle.wy_symbols.specs.declared.scoping.Head.{Head}
use Rattle.wy_symbols.specs.Least.{noted}
use Rattle.wy_symbols.specs.Atoms.{AtomScope}
use Rattle.wy_names.specs.ScopeParts.{ArePartsOfProgram, scope_with}
use Rattle.wy_names.specs.Scopes.{scope_of_program, program_refusals}
use Rattle.wy_symbols.specs.Lent.{module_tree, program_tree}
use Rattle.wy_names.proofs.ScopesMade.{scope_by_parts}
use Rattle.wy_names.proofs.scopes.program_scope.Goals as goal

pub returns-clause-scope : goal.returns-clause-scope
returns-clause-scope c =
    let heads = c.args.heads.now in
    let modules = map module_tree c.args.modules.now in
    let g = program_tree c.args.program.now in
    let seen = ap (λ (s : AtomScope). s.heads) c.in_ok-owners.ensures in
    let P : List Head → Type 0 = λ h. ArePartsOfProgram h modules g c.in_ok-parts.parts in
    let parts = subst P seen c.in_ok-parts.ensures.parts in
    let name : c.in_ok-name.name ≡ (scope_of_program heads modules g).name = search rules in
    c.scope_with.ensures
    ∙ scope_by_parts (scope_with Program c.in_ok-name.name g.place c.into_atoms-atoms.result None g.run c.in_ok-parts.parts) (scope_of_program heads modules g) refl name refl
    (c.into_atoms-atoms.ensures ∙ ap (λ (s : AtomScope). s.atoms) c.in_ok-owners.ensures)
    parts.bounds parts.names refl parts.definitions parts.literals refl parts.effect parts.start parts.bodies

pub returns-clause-noted : goal.returns-clause-noted
returns-clause-noted c =
    let modules = map module_tree c.args.modules.now in
    let g = program_tree c.args.program.now in
    let seen = ap (λ (s : AtomScope). s.heads) c.in_ok-owners.ensures in
    c.in_ok-parts.ensures.noted ∙ ap (λ h. noted c.args.least.now (program_refusals h modules g)) seen
