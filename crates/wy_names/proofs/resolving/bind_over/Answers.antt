use Rattle.std.proofs.Common.{◌≡◌, [], ◌++◌, List, map, ap, ◌∙◌, subst}
use Rattle.wy_types.specs.declared.resolved.TypeDecl.{TypeDecl}
use Rattle.wy_types.specs.Program.{Program, Scope, scope_of}
use Rattle.wy_symbols.specs.declared.scoping.Head.{Head}
use Rattle.wy_symbols.specs.Least.{noted}
use Rattle.wy_symbols.specs.Declarations.{repeated, type_names, module_names}
use Rattle.wy_symbols.specs.Atoms.{heads_of, primitive_names}
use Rattle.wy_symbols.specs.TypeUses.{declaration, declarations_of, declarations_refusals}
use Rattle.wy_names.specs.Scopes.{scope_of_module, scope_of_program}
use Rattle.wy_names.specs.Judged.{NotesScopes}
use Rattle.wy_symbols.specs.Lent.{lent_type, lent_program, module_tree, lent_declared}
use Rattle.wy_names.proofs.Judging.{all_noted}
use Rattle.wy_names.proofs.resolving.bind_over.Goals as goal

pub returns-clause-core : goal.returns-clause-core
returns-clause-core c =
    let types = map lent_type c.args.types.now in
    let modules = map module_tree c.args.modules.now in
    let programs = map lent_program c.args.programs.now in
    let heads = heads_of types in
    let decls : c.declare.new.declarations ≡ declarations_of heads types =
    c.in_ok-declare.ensures.list
    ∙ ap (λ (h : List Head). c.args.primitives ++ map (declaration h) types) c.requires.headed
    ∙ ap (λ (l : List TypeDecl). l ++ map (declaration heads) types) c.requires.primitive in
    let scopes : map scope_of c.in_ok-scopes.scopes ≡ map (scope_of_module heads modules) modules ++ map (scope_of_program heads modules) programs =
    c.in_ok-scopes.ensures.scopes ∙ ap (λ (h : List Head). map (scope_of_module h modules) modules ++ map (scope_of_program h modules) programs) c.requires.headed in
    let P : List TypeDecl → List Scope → Program = λ ds ss. record { declarations = ds; scopes = ss } in
    ap (λ ds. P ds (map scope_of c.in_ok-scopes.scopes)) decls ∙ ap (P (declarations_of heads types)) scopes

pub returns-clause-judged : goal.returns-clause-judged
returns-clause-judged c =
    let types = map lent_type c.args.types.now in
    let modules = map module_tree c.args.modules.now in
    let programs = map lent_program c.args.programs.now in
    let words = repeated primitive_names (type_names types) ++ repeated [] (module_names modules) in
    let decls = c.in_ok-declare.ensures.noted ∙ ap (λ (h : List Head). noted c.args.least.now (words ++ declarations_refusals h types)) c.requires.headed in
    let P : List Head → Type 0 = λ h. NotesScopes h modules programs c.declare.new.least c.bind_scopes.new.least in
    all_noted (lent_declared c.args.types.now c.args.modules.now c.args.programs.now) c.args.least.now c.declare.new.least c.bind_scopes.new.least
    decls (subst P c.requires.headed c.in_ok-scopes.ensures.noted)
