-- Modules and the program block stand for the same scopes, and are refused alike, over heads that differ in the type of one number
-- alone, which no name that is `Ok` finds: so the names of a program are refused, and are resolved, over the table of primitive types of
-- the edition before as over today's, where no name of a type is that of the type in which the tables differ.
use Rattle.std.proofs.Common.{◌≡◌, ℕ, Bool, false, List, [], ◌∷◌, ◌++◌, map, refl, ap, ap₂, ◌∙◌}
use Rattle.wy_text.specs.declared.fault.Place.{Place}
use Rattle.wy_syntax.specs.Trees.{ItemTree, PartTrees, TailTree}
use Rattle.wy_types.specs.Primitive.{former_types, primitive_types}
use Rattle.wy_types.specs.Program.{Scope}
use Rattle.wy_types.specs.Types.{is_plain}
use Rattle.wy_symbols.specs.declared.refusal.Refusal.{Refusal}
use Rattle.wy_symbols.specs.declared.scoping.Head.{Head}
use Rattle.wy_symbols.specs.Declarations.{ModuleTree, ProgramTree, types_of, modules_of, programs_of, module_names, repeated}
use Rattle.wy_symbols.specs.Atoms.{AtomScope, heads_over, owner_names}
use Rattle.wy_symbols.specs.TypeUses.{param_names}
use Rattle.wy_heads.specs.ScopeHeads.{define_names, grant_names, line_words, module_owners, module_scope, program_owners, program_scope}
use Rattle.wy_bodies.specs.Sight.{Sight, outermost, inside}
use Rattle.wy_bodies.specs.Bodies.{Within, Count, at_start, part_values, tail_block, literal_of, parts_literals, tail_literals, parts_bodies, tail_bodies}
use Rattle.wy_bodies.specs.BodyRefusals.{repeated_parts, parts_refusals, tail_refusals}
use Rattle.wy_names.specs.Scopes.{scope_of_module, module_refusals, modules_refusals, scope_of_program, program_refusals, programs_refusals, second_programs, refusals_over, resolved_over}
use Rattle.wy_editions.proofs.TypeNames.{PartsHave, TailHas, DeclsHave, ModuleHas, ModulesHave, BlockHas, BlocksHave}
use Rattle.wy_editions.proofs.Alike.{HeadsAlike, ScopesAlike}
use Rattle.wy_editions.proofs.SymbolsAlike.{set_same, set_refusals_same, type_same, use_same, method_same, signature_same, declarations_refusals_same}
use Rattle.wy_editions.proofs.HeadsOver.{IsOld, heads_alike, repeated_same}
use Rattle.wy_editions.proofs.ScopesOver as over
use Rattle.wy_editions.proofs.BodiesAlike as body

both : {X : Type 0} {a b c d : List X} → a ≡ b → c ≡ d → a ++ c ≡ b ++ d
both {X} p q = ap₂ (λ (x y : List X). x ++ y) p q

------------------------------------------------------------
-- Bodies in scopes that are alike, under own names that are the same

module _ (Ok : List ℕ → Type 0) (i : ℕ) (s t : AtomScope) (alike : ScopesAlike Ok i s t) (plain : Bool) (own other : List (List ℕ)) (e : own ≡ other) where
  abbrev sees : AtomScope → List (List ℕ) → Within
  sees atoms names = record { atoms = atoms; plain = plain; own = names }

  values_same : (x : Sight) (n : Count) (ps : PartTrees) → PartsHave Ok ps → part_values (sees s own) x n ps ≡ part_values (sees t other) x n ps
  values_same x n ps k =
      body.part_values_same Ok s t plain own (type_same Ok i s t alike plain) (method_same Ok i s t alike plain) (use_same Ok i s t alike plain) (signature_same Ok i s t alike plain) x n ps k
      ∙ ap (λ (names : List (List ℕ)). part_values (sees t names) x n ps) e

  block_same : (p : Place) (x : Sight) (n : Count) (b : TailTree) → TailHas Ok b → tail_block (sees s own) p x n b ≡ tail_block (sees t other) p x n b
  block_same p x n b k =
      body.tail_block_same Ok s t plain own (type_same Ok i s t alike plain) (method_same Ok i s t alike plain) (use_same Ok i s t alike plain) (signature_same Ok i s t alike plain) p x n b k
      ∙ ap (λ (names : List (List ℕ)). tail_block (sees t names) p x n b) e

  literal_same : (x : Sight) (ps : PartTrees) → PartsHave Ok ps → literal_of (sees s own) x ps ≡ literal_of (sees t other) x ps
  literal_same x ps k =
      body.literal_same Ok s t plain own (type_same Ok i s t alike plain) (method_same Ok i s t alike plain) (use_same Ok i s t alike plain) (signature_same Ok i s t alike plain) x ps k
      ∙ ap (λ (names : List (List ℕ)). literal_of (sees t names) x ps) e

  literals_same : (x within : Sight) (n : Count) (ps : PartTrees) → PartsHave Ok ps → parts_literals (sees s own) x within n ps ≡ parts_literals (sees t other) x within n ps
  literals_same x within n ps k =
      body.parts_literals_same Ok s t plain own (type_same Ok i s t alike plain) (method_same Ok i s t alike plain) (use_same Ok i s t alike plain) (signature_same Ok i s t alike plain) x within n ps k
      ∙ ap (λ (names : List (List ℕ)). parts_literals (sees t names) x within n ps) e

  block_literals_same : (x : Sight) (n : Count) (b : TailTree) → TailHas Ok b → tail_literals (sees s own) x n b ≡ tail_literals (sees t other) x n b
  block_literals_same x n b k =
      body.tail_literals_same Ok s t plain own (type_same Ok i s t alike plain) (method_same Ok i s t alike plain) (use_same Ok i s t alike plain) (signature_same Ok i s t alike plain) x n b k
      ∙ ap (λ (names : List (List ℕ)). tail_literals (sees t names) x n b) e

  bodies_same : (x within : Sight) (owner : ℕ) (n : Count) (ps : PartTrees) → PartsHave Ok ps →
      parts_bodies (sees s own) x within owner n ps ≡ parts_bodies (sees t other) x within owner n ps
  bodies_same x within owner n ps k =
      body.parts_bodies_same Ok s t plain own (type_same Ok i s t alike plain) (method_same Ok i s t alike plain) (use_same Ok i s t alike plain) (signature_same Ok i s t alike plain) x within owner n ps k
      ∙ ap (λ (names : List (List ℕ)). parts_bodies (sees t names) x within owner n ps) e

  block_bodies_same : (x : Sight) (n : Count) (b : TailTree) → TailHas Ok b → tail_bodies (sees s own) x n b ≡ tail_bodies (sees t other) x n b
  block_bodies_same x n b k =
      body.tail_bodies_same Ok s t plain own (type_same Ok i s t alike plain) (method_same Ok i s t alike plain) (use_same Ok i s t alike plain) (signature_same Ok i s t alike plain) x n b k
      ∙ ap (λ (names : List (List ℕ)). tail_bodies (sees t names) x n b) e

  parts_refused_same : (x within : Sight) (n : Count) (ps : PartTrees) → PartsHave Ok ps → parts_refusals (sees s own) x within n ps ≡ parts_refusals (sees t other) x within n ps
  parts_refused_same x within n ps k =
      body.parts_refusals_same Ok s t plain own (type_same Ok i s t alike plain) (method_same Ok i s t alike plain) (use_same Ok i s t alike plain) (signature_same Ok i s t alike plain) x within n ps k
      ∙ ap (λ (names : List (List ℕ)). parts_refusals (sees t names) x within n ps) e

  block_refused_same : (x : Sight) (n : Count) (b : TailTree) → TailHas Ok b → tail_refusals (sees s own) x n b ≡ tail_refusals (sees t other) x n b
  block_refused_same x n b k =
      body.tail_refusals_same Ok s t plain own (type_same Ok i s t alike plain) (method_same Ok i s t alike plain) (use_same Ok i s t alike plain) (signature_same Ok i s t alike plain) x n b k
      ∙ ap (λ (names : List (List ℕ)). tail_refusals (sees t names) x n b) e

------------------------------------------------------------
-- Modules and the program block

module _ (Ok : List ℕ → Type 0) (i : ℕ) (h g : List Head) (a : HeadsAlike Ok i h g) (modules : List ModuleTree) (ok : ModulesHave Ok modules) where
  module _ (m : ModuleTree) (k : ModuleHas Ok m) where
    module_alike : ScopesAlike Ok i (module_scope h modules m) (module_scope g modules m)
    module_alike = over.module_scope_alike Ok i h g a modules ok m k

    module_names_same : owner_names (module_owners h modules m) ≡ owner_names (module_owners g modules m)
    module_names_same = ap owner_names (over.module_owners_same Ok i h g a modules ok m k)

    pub module_same : scope_of_module h modules m ≡ scope_of_module g modules m
    module_same =
        let s : AtomScope = module_scope h modules m in
        let t : AtomScope = module_scope g modules m in
        let own : List (List ℕ) = owner_names (module_owners h modules m) in
        let other : List (List ℕ) = owner_names (module_owners g modules m) in
        let atoms = over.module_atoms_same Ok i h g a modules ok m k in
        let bounds = over.module_bounds_same Ok i h g a modules ok m k in
        let names = over.module_own_same Ok i h g a modules ok m k in
        let ascribed = over.sealed_number_same Ok i h g a modules ok m k in
        let definitions = over.definitions_at_same Ok i h g a modules ok m k in
        let itself = literal_same Ok i s t module_alike (is_plain m.kind) own other module_names_same outermost m.parts k.2 in
        let literals = literals_same Ok i s t module_alike (is_plain m.kind) own other module_names_same outermost (inside outermost m.parts) at_start m.parts k.2 in
        let start_place = over.start_place_same Ok i h g a modules ok m m.init in
        let start_effect = over.start_effect_same Ok i h g a modules ok m k in
        let values = values_same Ok i s t module_alike (is_plain m.kind) own other module_names_same outermost at_start m.parts k.2 in
        let bodies = bodies_same Ok i s t module_alike (is_plain m.kind) own other module_names_same outermost (inside outermost m.parts) 0 at_start m.parts k.2 in
        cc

    pub module_refused_same : module_refusals h modules m ≡ module_refusals g modules m
    module_refused_same =
        both (over.sealed_refused_same Ok i h g a modules ok m k) (
        ap (λ (x : List Refusal). repeated [] (param_names m.params ++ (m.uses ++ line_words m.lines)) ++ x) (
        both (over.module_params_refused_same Ok i h g a modules ok m k) (
        both (over.module_uses_refused_same Ok i h g a modules ok m k) (
        both (over.module_lines_refused_same Ok i h g a modules ok m k) (
        ap (λ (x : List Refusal). repeated [] (define_names m.defines) ++ x) (
        both (over.module_definitions_refused_same Ok i h g a modules ok m k) (
        both (over.init_refused_same Ok i h g a modules ok m k) (
        ap (λ (x : List Refusal). repeated_parts m.parts ++ x) (
        parts_refused_same Ok i (module_scope h modules m) (module_scope g modules m) module_alike (is_plain m.kind)
        (owner_names (module_owners h modules m)) (owner_names (module_owners g modules m)) module_names_same outermost
        (inside outermost m.parts) at_start m.parts k.2
        )
        )
        )
        )
        )
        )
        )
        )
        )

  each_module_same : (ms : List ModuleTree) → ModulesHave Ok ms → map (scope_of_module h modules) ms ≡ map (scope_of_module g modules) ms
  each_module_same [] k = refl
  each_module_same (m ∷ ms) k = ap₂ ◌∷◌ (module_same m k.0) (each_module_same ms k.1)

  modules_refused_same : (ms : List ModuleTree) → ModulesHave Ok ms → modules_refusals h modules ms ≡ modules_refusals g modules ms
  modules_refused_same [] k = refl
  modules_refused_same (m ∷ ms) k = both (module_refused_same m k.0) (modules_refused_same ms k.1)

  module _ (p : ProgramTree) (k : BlockHas Ok p) where
    program_alike : ScopesAlike Ok i (program_scope h modules p) (program_scope g modules p)
    program_alike = over.program_scope_alike Ok i h g a modules ok p k

    program_names_same : owner_names (program_owners h modules p) ≡ owner_names (program_owners g modules p)
    program_names_same = ap owner_names (over.program_owners_same Ok i h g a modules ok p k)

    pub program_same : scope_of_program h modules p ≡ scope_of_program g modules p
    program_same =
        let s : AtomScope = program_scope h modules p in
        let t : AtomScope = program_scope g modules p in
        let own : List (List ℕ) = owner_names (program_owners h modules p) in
        let other : List (List ℕ) = owner_names (program_owners g modules p) in
        let atoms = over.program_atoms_same Ok i h g a modules ok p k in
        let bounds = over.program_bounds_same Ok i h g a modules ok p k in
        let names = over.program_own_same Ok i h g a modules ok p k in
        let literals = block_literals_same Ok i s t program_alike false own other program_names_same outermost at_start p.body k.1 in
        let start_effect = set_same Ok i s t program_alike p.effect in
        let block = block_same Ok i s t program_alike false own other program_names_same p.run outermost at_start p.body k.1 in
        let bodies = block_bodies_same Ok i s t program_alike false own other program_names_same outermost at_start p.body k.1 in
        cc

    pub program_refused_same : program_refusals h modules p ≡ program_refusals g modules p
    program_refused_same =
        ap (λ (x : List Refusal). repeated [] (grant_names p.grants ++ (p.uses ++ line_words p.lines)) ++ x) (
        both (over.grant_refused_same Ok i h g a modules ok p k) (
        both (over.program_uses_refused_same Ok i h g a modules ok p k) (
        both (over.program_lines_refused_same Ok i h g a modules ok p k) (
        both (set_refusals_same Ok i (program_scope h modules p) (program_scope g modules p) program_alike p.effect) (
        block_refused_same Ok i (program_scope h modules p) (program_scope g modules p) program_alike false
        (owner_names (program_owners h modules p)) (owner_names (program_owners g modules p)) program_names_same outermost at_start p.body k.1
        )
        )
        )
        )
        )

  programs_refused_same : (ps : List ProgramTree) → BlocksHave Ok ps → programs_refusals h modules ps ≡ programs_refusals g modules ps
  programs_refused_same [] k = refl
  programs_refused_same (p ∷ ps) k = both (program_refused_same p k.0) (programs_refused_same ps k.1)

------------------------------------------------------------
-- All files

pub refusals_same : (items : List ItemTree) → DeclsHave IsOld (types_of items) → ModulesHave IsOld (modules_of items) → BlocksHave IsOld (programs_of items) →
    refusals_over former_types items ≡ refusals_over primitive_types items
refusals_same items types modules blocks =
    let h : List Head = heads_over former_types (types_of items) in
    let g : List Head = heads_over primitive_types (types_of items) in
    let a : HeadsAlike IsOld 4 h g = heads_alike (types_of items) in
    both (repeated_same (types_of items) types) (
    ap (λ (x : List Refusal). repeated [] (module_names (modules_of items)) ++ x) (
    both (declarations_refusals_same IsOld 4 h g a (types_of items) types) (
    both (modules_refused_same IsOld 4 h g a (modules_of items) modules (modules_of items) modules) (
    ap (λ (x : List Refusal). x ++ second_programs (programs_of items))
    (programs_refused_same IsOld 4 h g a (modules_of items) modules (programs_of items) blocks)
    )
    )
    )
    )

pub scopes_same : (items : List ItemTree) (p : ProgramTree) → ModulesHave IsOld (modules_of items) → BlockHas IsOld p →
    (resolved_over former_types items p).scopes ≡ (resolved_over primitive_types items p).scopes
scopes_same items p modules block =
    let h : List Head = heads_over former_types (types_of items) in
    let g : List Head = heads_over primitive_types (types_of items) in
    let a : HeadsAlike IsOld 4 h g = heads_alike (types_of items) in
    ap₂ (λ (all : List Scope) (last : Scope). all ++ last ∷ []) (each_module_same IsOld 4 h g a (modules_of items) modules (modules_of items) modules)
    (program_same IsOld 4 h g a (modules_of items) modules p block)
