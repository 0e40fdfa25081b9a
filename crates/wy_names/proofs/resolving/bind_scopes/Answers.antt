use Rattle.std.proofs.Common.{◌++◌, List, map, refl, ap, ◌∙◌, subst}
use Rattle.wy_types.specs.declared.resolved.Scope as code
use Rattle.wy_types.specs.Program.{Scope, scope_of}
use Rattle.wy_symbols.specs.declared.gathering.ModuleView.{ModuleView}
use Rattle.wy_names.specs.Scopes.{scope_of_module, scope_of_program}
use Rattle.wy_names.specs.Judged.{NotesScopes}
use Rattle.wy_symbols.specs.Lent.{module_tree, lent_program}
use Rattle.wy_names.proofs.Judging.{scopes_noted}
use Rattle.wy_names.proofs.resolving.bind_scopes.Goals as goal

pub same-scopes : goal.same-scopes
same-scopes c = refl

pub same-scopes-2 : goal.same-scopes-2
same-scopes-2 c = refl

pub returns-clause-scopes : goal.returns-clause-scopes
returns-clause-scopes c =
    let heads = c.args.heads.now in
    let modules = map module_tree c.in_ok-modules.modules in
    let programs = map lent_program c.args.programs.now in
    c.in_ok-add_programs.ensures.scopes
    ∙ ap (λ (l : List Scope). l ++ map (scope_of_program heads modules) programs)
    (c.in_ok-add_modules.ensures.scopes ∙ ap (λ (l : List code.Scope). map scope_of l ++ map (scope_of_module heads modules) modules) c.new-scopes.ensures)
    ∙ ap (λ (vs : List ModuleView). map (scope_of_module heads (map module_tree vs)) (map module_tree vs) ++ map (scope_of_program heads (map module_tree vs)) programs) c.in_ok-modules.ensures

pub returns-clause-noted : goal.returns-clause-noted
returns-clause-noted c =
    let programs = map lent_program c.args.programs.now in
    let P : List ModuleView → Type 0 = λ vs. NotesScopes c.args.heads.now (map module_tree vs) programs c.args.least.now c.note_cycles.new.least in
    subst P c.in_ok-modules.ensures
    (scopes_noted c.args.heads.now (map module_tree c.in_ok-modules.modules) programs c.args.least.now
    c.add_modules.new.least c.add_programs.new.least c.note_second.new.least c.note_cycles.new.least
    c.in_ok-add_modules.ensures.noted c.in_ok-add_programs.ensures.noted c.note_second.ensures c.in_ok-note_cycles.ensures)
