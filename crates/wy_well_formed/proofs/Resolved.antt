-- A program whose names resolve is a core.
use Rattle.std.proofs.Common.{◌≡◌, ℕ, ◌+◌, ◌≤◌, List, [], ◌∷◌, ◌++◌, map, length, false, None, inl, inr, refl, sym, ap, ◌∙◌, subst, arith}
use Rattle.std.proofs.lemmas.List.{length-map, length-append}
use Rattle.wy_syntax.specs.declared.items.TypeDecl as tree
use Rattle.wy_syntax.specs.Trees.{ItemTree, PartTrees}
use Rattle.wy_text.specs.Members.{In, Apart}
use Rattle.wy_text.proofs.Lists.{In-cases, In-unmap}
use Rattle.wy_types.specs.declared.resolved.TypeDecl.{TypeDecl}
use Rattle.wy_types.specs.Primitive.{primitive_types}
use Rattle.wy_types.specs.Program.{Program, Scope}
use Rattle.wy_types.specs.Types.{is_plain, methods_of_owner}
use Rattle.wy_types.specs.Core.{IsCore, DeclarationFits, ScopeFits}
use Rattle.wy_symbols.specs.declared.refusal.Refusal.{Refusal}
use Rattle.wy_symbols.specs.declared.scoping.Head.{Head}
use Rattle.wy_names.specs.Names.{Refuses}
use Rattle.wy_symbols.specs.Declarations.{ModuleTree, ProgramTree, types_of, modules_of, programs_of, module_names, type_names, repeated, texts}
use Rattle.wy_symbols.specs.Atoms.{head_names, all_names, primitive_names, heads_of}
use Rattle.wy_heads.specs.Lines.{param_name, grant_name, line_module}
use Rattle.wy_symbols.specs.TypeUses.{declaration, declaration_refusals, declarations_refusals, member_names, method_names}
use Rattle.wy_bodies.specs.Sight.{outermost, inside}
use Rattle.wy_bodies.specs.Bodies.{Within, at_start}
use Rattle.wy_bodies.specs.BodyRefusals.{repeated_parts, parts_refusals, tail_refusals}
use Rattle.wy_heads.specs.Counts.{parts_literals, tail_literals, type_counts, module_count, program_count, limit_of}
use Rattle.wy_heads.specs.ScopeHeads.{module_atoms, module_owners, program_owners, program_atoms, param_scope, program_scope, early_owners, grant_owners}
use Rattle.wy_names.specs.Scopes.{module_within, program_within, scope_of_module, scope_of_program, module_refusals, modules_refusals, program_refusals, programs_refusals, refusals_of, resolved}
use Rattle.wy_well_formed.specs.WellFormed.{ResolvedIsCore}
use Rattle.wy_well_formed.proofs.Scoping.{ReadsIn, OfParts, OfBody, AllFew, BodiesFit}
use Rattle.wy_well_formed.proofs.Repeats.{append_empty, repeated_apart, repeated_absent}
use Rattle.wy_well_formed.proofs.AtomCounts.{atoms_within, heads_count}
use Rattle.wy_well_formed.proofs.WrittenTypes.{Knows}
use Rattle.wy_well_formed.proofs.Known.{KnowsMembers, heads_known, members_known, head_names_are, declaration_names}
use Rattle.wy_well_formed.proofs.ScopeBounds.{DeclarationsFit}
use Rattle.wy_well_formed.proofs.PrimitiveTypes.{primitive_fits, primitive_names_apart}
use Rattle.wy_well_formed.proofs.Declared.{NamesDiffer, declaration_fits}
use Rattle.wy_well_formed.proofs.Limits.{few_types, few_modules, few_module_parts, few_program_parts, few_members, few_module_atoms, few_program_atoms, few_module_params, few_program_grants}
use Rattle.wy_well_formed.proofs.ModuleForms.{HasForm, is_module, modules_have_form}
use Rattle.wy_well_formed.proofs.NamedModules.{own_named, named_below, params_lead_nowhere, grants_lead_nowhere}
use Rattle.wy_well_formed.proofs.NoCycles.{LeadAsWritten, no_cycle}
use Rattle.wy_well_formed.proofs.ModuleScopes.{NotRefused, not_refused, module_reads, module_parts_are, module_fits}
use Rattle.wy_well_formed.proofs.ProgramScope.{ProgramNotRefused, program_not_refused, program_reads, program_body_is, program_fits}
use Rattle.wy_well_formed.proofs.Assembled.{program_is_last, module_names_are, Apart-append, nothing_in}

-- what is asked of bodies
abbrev pub PartsFit : Type 0
PartsFit =
    (p : Program) (s : Scope) (w : Within) (parts : PartTrees) → ReadsIn p s w → OfParts w parts s →
    repeated_parts parts ≡ [] → parts_refusals w outermost (inside outermost parts) at_start parts ≡ [] →
    AllFew (parts ∷ parts_literals parts) → BodiesFit p s

abbrev pub BodyFits : Type 0
BodyFits =
    (p : Program) (s : Scope) (w : Within) (g : ProgramTree) → ReadsIn p s w → OfBody w g s → is_plain s.kind ≡ false →
    tail_refusals w outermost at_start g.body ≡ [] → AllFew (tail_literals g.body) → BodiesFit p s

abbrev pub HasNoOwnBodies : Type 0
HasNoOwnBodies =
    (s : Scope) (w : Within) (g : ProgramTree) → OfBody w g s → tail_refusals w outermost at_start g.body ≡ [] → AllFew (tail_literals g.body) →
    methods_of_owner 0 s.bodies ≡ []

each_declaration : (heads : List Head) (types : List tree.TypeDecl) → declarations_refusals heads types ≡ [] → (d : tree.TypeDecl) → In d types → declaration_refusals heads d ≡ []
each_declaration heads [] e d i = absurd i
each_declaration heads (t ∷ types) e d (inl f) =
    let P : tree.TypeDecl → Type 0 = λ v. declaration_refusals heads v ≡ [] in
    subst P f (append_empty (declaration_refusals heads t) (declarations_refusals heads types) e).0
each_declaration heads (t ∷ types) e d (inr i) = each_declaration heads types (append_empty (declaration_refusals heads t) (declarations_refusals heads types) e).1 d i

each_module : (heads : List Head) (modules ms : List ModuleTree) → modules_refusals heads modules ms ≡ [] → (m : ModuleTree) → In m ms → module_refusals heads modules m ≡ []
each_module heads modules [] e m i = absurd i
each_module heads modules (k ∷ ms) e m (inl f) =
    let P : ModuleTree → Type 0 = λ v. module_refusals heads modules v ≡ [] in
    subst P f (append_empty (module_refusals heads modules k) (modules_refusals heads modules ms) e).0
each_module heads modules (k ∷ ms) e m (inr i) = each_module heads modules ms (append_empty (module_refusals heads modules k) (modules_refusals heads modules ms) e).1 m i

names_differ : (heads : List Head) (d : tree.TypeDecl) → declaration_refusals heads d ≡ [] → NamesDiffer d
names_differ heads d e =
    let a = append_empty (repeated [] (member_names d.members)) _ e in
    let b = append_empty (repeated [] (method_names d.members)) _ a.1 in
    record { members = a.0; methods = b.0 }

-- the refusals of a program's items, part by part
pub record ItemsNotRefused (items : List ItemTree) (g : ProgramTree) : Type 0 where
  pub types : repeated primitive_names (type_names (types_of items)) ≡ []
  pub names : repeated [] (module_names (modules_of items)) ≡ []
  pub declarations : (d : tree.TypeDecl) → In d (types_of items) → NamesDiffer d
  pub modules : (m : ModuleTree) → In m (modules_of items) → NotRefused (heads_of (types_of items)) (modules_of items) m
  pub program : ProgramNotRefused (heads_of (types_of items)) (modules_of items) g

pub items_not_refused : (items : List ItemTree) (g : ProgramTree) → programs_of items ≡ g ∷ [] → refusals_of items ≡ [] → ItemsNotRefused items g
items_not_refused items g one e =
    let types = types_of items in
    let modules = modules_of items in
    let heads = heads_of types in
    let a = append_empty (repeated primitive_names (type_names types)) _ e in
    let b = append_empty (repeated [] (module_names modules)) _ a.1 in
    let c = append_empty (declarations_refusals heads types) _ b.1 in
    let d = append_empty (modules_refusals heads modules modules) _ c.1 in
    let f = append_empty (programs_refusals heads modules (programs_of items)) _ d.1 in
    let P : List ProgramTree → Type 0 = λ gs. programs_refusals heads modules gs ≡ [] in
    let h = append_empty (program_refusals heads modules g) [] (subst P one f.0) in
    record {
      types = a.0;
      names = b.0;
      declarations = λ t i. names_differ heads t (each_declaration heads types c.0 t i);
      modules = λ m i. not_refused heads modules m (each_module heads modules modules d.0 m i);
      program = program_not_refused heads modules g h.0;
    }

module _ (items : List ItemTree) (g : ProgramTree) (one : programs_of items ≡ g ∷ []) (within : limit_of items ≡ None) (sound : ItemsNotRefused items g) where
  abbrev types : List tree.TypeDecl
  types = types_of items

  abbrev modules : List ModuleTree
  modules = modules_of items

  abbrev heads : List Head
  heads = heads_of (types_of items)

  abbrev core : Program
  core = resolved items g

  knows : Knows core heads
  knows = heads_known core types refl

  scope_count : length modules + 1 ≡ length (core.scopes)
  scope_count =
      let a = length-map modules (scope_of_module heads modules) in
      let b = length-append (map (scope_of_module heads modules) modules) (scope_of_program heads modules g ∷ []) in
      omega (arith, a, b)

  the_program : In g (programs_of items)
  the_program = let P : List ProgramTree → Type 0 = λ gs. In g gs in subst P (sym one) (inl refl)

  -- atoms
  module_atoms_few : (m : ModuleTree) → In m modules → length (module_atoms heads modules m) ≤ 512
  module_atoms_few m i =
      let l = atoms_within heads (type_counts types) (module_owners heads modules m) (heads_count types) in
      let f = few_module_atoms items within m i in
      let same : module_count (head_names heads) modules (type_counts types) m ≡ module_count (all_names types) modules (type_counts types) m =
      ap (λ ns. module_count ns modules (type_counts types) m) (head_names_are types) in
      omega (arith, l, f, same)

  program_atoms_few : length (program_atoms heads modules g) ≤ 512
  program_atoms_few =
      let l = atoms_within heads (type_counts types) (program_owners heads modules g) (heads_count types) in
      let f = few_program_atoms items within g the_program in
      let same : program_count (head_names heads) modules (type_counts types) g ≡ program_count (all_names types) modules (type_counts types) g =
      ap (λ ns. program_count ns modules (type_counts types) g) (head_names_are types) in
      omega (arith, l, f, same)

  -- declarations
  declarations_fit : (d : TypeDecl) → In d (core.declarations) → DeclarationFits core d
  declarations_fit d i =
      elim (In-cases d primitive_types (map (declaration heads) types) i) [
        | inl j ↦ primitive_fits core d j
        | inr j ↦ (
            let r = In-unmap (declaration heads) d types j in
            let P : TypeDecl → Type 0 = λ v. DeclarationFits core v in
            subst P r.2 (declaration_fits core heads r.0 knows (few_members items within r.0 r.1) (sound.declarations r.0 r.1)))
      ]

  types_apart : Apart (map (λ (d : TypeDecl). d.name) (core.declarations))
  types_apart =
      let P : List (List ℕ) → Type 0 = λ l. Apart l in
      subst P (sym (declaration_names heads types))
      (Apart-append primitive_names (texts (type_names types)) primitive_names_apart (repeated_apart primitive_names (type_names types) sound.types)
      (λ x i j. repeated_absent primitive_names (type_names types) x sound.types i j))

  -- modules
  form_of : (m : ModuleTree) → In m modules → HasForm m.kind m
  form_of m i = modules_have_form items m i

  modules_texts : (ms : List ModuleTree) → map (λ (m : ModuleTree). (scope_of_module heads modules m).name) ms ≡ texts (module_names ms)
  modules_texts [] = refl
  modules_texts (m ∷ ms) = ap (λ l. m.name.text ∷ l) (modules_texts ms)

  lead : LeadAsWritten core modules
  lead = record {
    scope = scope_of_module heads modules;
    last = scope_of_program heads modules g;
    scopes = refl;
    modules_lead = λ m i. (
        let s = sound.modules m i in
        own_named heads modules (module_atoms heads modules m) (map (param_name (param_scope heads modules m) (is_plain m.kind)) m.params) m.uses (early_owners heads modules m) m.lines
        (params_lead_nowhere (param_scope heads modules m) (is_plain m.kind) m.params) s.uses s.lines);
    last_leads = λ j i. named_below modules (g.uses ++ map line_module g.lines) j
        (own_named heads modules (program_atoms heads modules g) (map (grant_name (program_scope heads modules g)) g.grants) g.uses (grant_owners heads modules g) g.lines
        (grants_lead_nowhere (program_scope heads modules g) g.grants) (sound.program).uses (sound.program).lines j i);
  }

  members : KnowsMembers core heads
  members = members_known core types refl

  declared : DeclarationsFit core
  declared = record { each = declarations_fit }

  module _ (parts_fit : PartsFit) (body_fits : BodyFits) (no_own_bodies : HasNoOwnBodies) where
    module_scope_fits : (m : ModuleTree) → In m modules → ScopeFits core (scope_of_module heads modules m)
    module_scope_fits m i =
        let s = sound.modules m i in
        module_fits core heads modules knows scope_count m (form_of m i) s members declared (module_atoms_few m i) (few_module_params items within m i)
        (parts_fit core (scope_of_module heads modules m) (module_within heads modules m) m.parts
        (module_reads core heads modules knows scope_count m (form_of m i) s) (module_parts_are core heads modules knows scope_count m (form_of m i) s)
        s.parts_names s.parts (few_module_parts items within m i))

    program_scope_fits : ScopeFits core (scope_of_program heads modules g)
    program_scope_fits =
        let s = scope_of_program heads modules g in
        let w = program_within heads modules g in
        let is = program_body_is core heads modules knows scope_count g sound.program in
        let few = few_program_parts items within g the_program in
        program_fits core heads modules knows scope_count g sound.program members declared program_atoms_few (few_program_grants items within g the_program)
        (no_own_bodies s w g is (sound.program).body few)
        (body_fits core s w g (program_reads core heads modules knows scope_count g sound.program) is refl (sound.program).body few)

    scopes_fit : (s : Scope) → In s (core.scopes) → ScopeFits core s
    scopes_fit s i =
        let P : Scope → Type 0 = λ v. ScopeFits core v in
        elim (In-cases s (map (scope_of_module heads modules) modules) (scope_of_program heads modules g ∷ []) i) [
          | inl j ↦ (let r = In-unmap (scope_of_module heads modules) s modules j in subst P r.2 (module_scope_fits r.0 r.1))
          | inr j ↦ elim j [ inl e ↦ subst P e program_scope_fits | inr l ↦ absurd l ]
        ]

    is_core : ((r : Refusal) → Refuses items r → ⊥) → IsCore core
    is_core none = record {
      primitives = refl;
      declarations = declarations_fit;
      scopes = scopes_fit;
      program = program_is_last (scope_of_module heads modules) (scope_of_program heads modules g) modules (λ m i. is_module m.kind m (form_of m i)) refl;
      no_cycle = no_cycle core modules lead (λ r c. none r (inr c));
      type_names = types_apart;
      modules = let P : List (List ℕ) → Type 0 = λ l. Apart l in
          subst P (sym (module_names_are (scope_of_module heads modules) (scope_of_program heads modules g) modules ∙ modules_texts modules))
          (repeated_apart [] (module_names modules) sound.names);
      few_types = let f = few_types items within in let l = length-map types (declaration heads) in omega (arith, f, l);
      few_scopes = let f = few_modules items within in let l = scope_count in omega (arith, f, l);
    }

pub resolved_core : PartsFit → BodyFits → HasNoOwnBodies → ResolvedIsCore
resolved_core parts_fit body_fits no_own_bodies items p r =
    let nothing : refusals_of items ≡ [] = nothing_in (refusals_of items) (λ x i. r.sound x (inl i)) in
    let P : Program → Type 0 = λ v. IsCore v in
    subst P (sym r.bound) (is_core items r.program r.one r.within (items_not_refused items r.program r.one nothing) parts_fit body_fits no_own_bodies r.sound)
