-- The scope of a module whose names are not refused fits, where its bodies do.
use Rattle.std.proofs.Common.{◌≡◌, ℕ, ◌+◌, ◌<◌, ◌≤◌, List, [], ◌++◌, map, length, Bool, true, false, Option, Some, None, refl, sym, ap, ◌∙◌, subst, arith}
use Rattle.std.proofs.lemmas.List.{length-map, length-append}
use Rattle.wy_syntax.specs.declared.types.Name.{Name}
use Rattle.wy_syntax.specs.declared.items.Line.{Line}
use Rattle.wy_syntax.specs.declared.items.Init as tree
use Rattle.wy_text.specs.Members.{In, Within, Apart}
use Rattle.wy_effects.specs.EffSet.{IsSet, AreSets}
use Rattle.wy_effects.specs.Bounds.{BoundsFit}
use Rattle.wy_text.proofs.Lists.{In-left, In-right, In-unmap}
use Rattle.wy_types.specs.declared.resolved.ScopeKind.{ScopeKind}
use Rattle.wy_types.specs.declared.resolved.ScopeKind.TheVariants.{Pure, Resource, Plain, Program as Main}
use Rattle.wy_types.specs.declared.resolved.OwnName.{OwnName}
use Rattle.wy_types.specs.Program.{Program, Scope, Body, Init}
use Rattle.wy_types.specs.Code.{Values}
use Rattle.wy_types.specs.Types.{is_plain}
use Rattle.wy_types.specs.Core.{IsAscribed, StartIs, BodiesHaveNoEffect, ScopeFits}
use Rattle.wy_symbols.specs.declared.scoping.Head.{Head}
use Rattle.wy_symbols.specs.declared.scoping.Meaning.{Meaning}
use Rattle.wy_symbols.specs.declared.scoping.Owner.{Owner}
use Rattle.wy_symbols.specs.Declarations.{ModuleTree, repeated}
use Rattle.wy_symbols.specs.Meanings.{meaning_of, abstract_names}
use Rattle.wy_symbols.specs.Atoms.{AtomScope, bounds_of_owners, head_names, type_number, members_of, meaning_set, params_owners, closed_owner, param_owner, use_owner, line_owner, owner_names}
use Rattle.wy_symbols.specs.TypeUses.{param_names}
use Rattle.wy_heads.specs.Lines.{param_name, param_refusals, use_name, uses_refusals, line_names, lines_refusals}
use Rattle.wy_bodies.specs.Sight.{outermost, inside}
use Rattle.wy_bodies.specs.Bodies.{at_start}
use Rattle.wy_heads.specs.ScopeHeads.{define_names, line_words, param_owners, use_owners, line_owners, early_owners, module_owners, module_atoms, module_meanings, module_scope, param_scope, module_own, definitions_at, start_effect, sealed_refusals, definitions_refusals, init_refusals}
use Rattle.wy_names.specs.Scopes.{module_within, scope_of_module, module_refusals}
use Rattle.wy_bodies.specs.BodyRefusals.{repeated_parts, parts_refusals}
use Rattle.wy_well_formed.proofs.Scoping.{ReadsIn, OfParts, BodiesFit}
use Rattle.wy_well_formed.proofs.Repeats.{append_empty}
use Rattle.wy_well_formed.proofs.Sets.{AllOpen, AreMeant, Holds, meaning_set_below, set_below}
use Rattle.wy_well_formed.proofs.AtomsThere.{owners_open}
use Rattle.wy_well_formed.proofs.Meant.{none_meant, definitions_meant}
use Rattle.wy_well_formed.proofs.WrittenTypes.{Knows, IsType, number_known, use_stands, effect_below}
use Rattle.wy_well_formed.proofs.OwnNames.{AllOwn, own_at, own_append, params_own, uses_own, lines_own}
use Rattle.wy_well_formed.proofs.OwnApart.{own_texts, param_texts, own_apart, lines_length}
use Rattle.wy_well_formed.proofs.OwnCounts.{module_grants, module_parameters}
use Rattle.wy_well_formed.proofs.Known.{KnowsMembers}
use Rattle.wy_well_formed.proofs.OwnTyped.{params_follow}
use Rattle.wy_well_formed.proofs.ScopeBounds.{DeclarationsFit, all_follow, scope_bounds_fit}
use Rattle.wy_well_formed.proofs.ModuleForms.{HasForm, is_module, plain_is_bare}

------------------------------------------------------------
-- By the kind of a module

start_is : (kind : ScopeKind) (values : Values) → (kind ≡ Main → ⊥) → StartIs kind (Init values)
start_is Pure values n = tt
start_is Resource values n = tt
start_is Plain values n = tt
start_is Main values n = n refl

no_effects : (kind : ScopeKind) (effect : List ℕ) (bodies : List Body) → (is_plain kind ≡ true → effect ≡ []) → (is_plain kind ≡ true → (b : Body) → In b bodies → b.signature.effect ≡ []) →
    BodiesHaveNoEffect kind effect bodies
no_effects Pure effect bodies e h = tt
no_effects Resource effect bodies e h = tt
no_effects Plain effect bodies e h = (e refl, h refl)
no_effects Main effect bodies e h = tt

-- the number of a declared type is not refused
record IsSealed (o : Option ℕ) : Type 0 where
  number : ℕ
  is : o ≡ Some number

module _ (heads : List Head) (modules : List ModuleTree) where
  is_sealed : (m : ModuleTree) (o : Option ℕ) → sealed_refusals heads modules m o ≡ [] → IsSealed o
  is_sealed m None e = cc
  is_sealed m (Some d) e = record { number = d; is = refl }

  -- what is defined: a set for each abstract member of the type
  ascribed : (p : Program) (s : Scope) (kind : ScopeKind) (meanings : List Meaning) (d : ℕ) → Knows p heads → (kind ≡ Main → ⊥) →
      s.definitions ≡ definitions_at heads modules (is_plain kind) meanings (Some d) → d < length p.declarations → IsAscribed p s kind (Some d)
  ascribed p s Pure meanings d knows n e lt =
      (lt, ap (λ (l : List (List ℕ)). length l) e ∙ length-map (abstract_names (members_of heads d)) (λ x. meaning_set (meaning_of meanings x)) ∙ knows.members d)
  ascribed p s Resource meanings d knows n e lt =
      (lt, ap (λ (l : List (List ℕ)). length l) e ∙ length-map (abstract_names (members_of heads d)) (λ x. meaning_set (meaning_of meanings x)) ∙ knows.members d)
  ascribed p s Plain meanings d knows n e lt = (lt, e)
  ascribed p s Main meanings d knows n e lt = absurd (n refl)

  definitions_below : (n : ℕ) (plain : Bool) (meanings : List Meaning) (o : Option ℕ) → AreMeant n meanings → AreSets n (definitions_at heads modules plain meanings o)
  definitions_below n true meanings None h t i = absurd i
  definitions_below n false meanings None h t i = absurd i
  definitions_below n true meanings (Some d) h t i = absurd i
  definitions_below n false meanings (Some d) h t i =
      let r = In-unmap (λ x. meaning_set (meaning_of meanings x)) t (abstract_names (members_of heads d)) i in
      let P : List ℕ → Type 0 = λ v. IsSet n v in
      subst P r.2 (meaning_set_below n meanings r.0 h)

  start_below : (n : ℕ) (s : AtomScope) (init : Option tree.Init) → Holds n s → IsSet n (start_effect heads modules s init)
  start_below n s None h = tt
  start_below n s (Some i) h = set_below n s h i.effect

  params_count : (plain : Bool) (m : ModuleTree) → length (params_owners (head_names heads) plain m.params) ≡ length m.params
  params_count true m = length-map m.params closed_owner
  params_count false m = length-map m.params (param_owner (head_names heads))

  -- the refusals of a module, part by part
  pub record NotRefused (m : ModuleTree) : Type 0 where
    pub sealed : sealed_refusals heads modules m (type_number (head_names heads) m.sealed.text) ≡ []
    pub names : repeated [] (param_names m.params ++ (m.uses ++ line_words m.lines)) ≡ []
    pub uses : uses_refusals heads modules (module_atoms heads modules m) m.uses ≡ []
    pub lines : lines_refusals heads modules (module_atoms heads modules m) (early_owners heads modules m) m.lines ≡ []
    pub parts_names : repeated_parts m.parts ≡ []
    pub parts : parts_refusals (module_within heads modules m) outermost (inside outermost m.parts) at_start m.parts ≡ []

  pub not_refused : (m : ModuleTree) → module_refusals heads modules m ≡ [] → NotRefused m
  not_refused m e =
      let a = append_empty (sealed_refusals heads modules m (type_number (head_names heads) m.sealed.text)) _ e in
      let b = append_empty (repeated [] (param_names m.params ++ (m.uses ++ line_words m.lines))) _ a.1 in
      let c = append_empty (param_refusals (param_scope heads modules m) (is_plain m.kind) m.params) _ b.1 in
      let d = append_empty (uses_refusals heads modules (module_atoms heads modules m) m.uses) _ c.1 in
      let f = append_empty (lines_refusals heads modules (module_atoms heads modules m) (early_owners heads modules m) m.lines) _ d.1 in
      let g = append_empty (repeated [] (define_names m.defines)) _ f.1 in
      let h = append_empty (definitions_refusals heads (module_atoms heads modules m) (module_owners heads modules m) [] m.defines) _ g.1 in
      let i = append_empty (init_refusals heads modules (module_scope heads modules m) m.init) _ h.1 in
      let j = append_empty (repeated_parts m.parts) _ i.1 in
      record { sealed = a.0; names = b.0; uses = d.0; lines = f.0; parts_names = j.0; parts = j.1 }

------------------------------------------------------------
-- A module

module _ (p : Program) (heads : List Head) (modules : List ModuleTree) (knows : Knows p heads) (count : length modules + 1 ≡ length p.scopes)
    (m : ModuleTree) (form : HasForm m.kind m) (sound : NotRefused heads modules m) where
  abbrev the_scope : Scope
  the_scope = scope_of_module heads modules m

  abbrev atom_count : ℕ
  atom_count = length (module_atoms heads modules m)

  opens : AllOpen atom_count heads (module_atoms heads modules m) (module_owners heads modules m)
  opens = owners_open heads (module_owners heads modules m)

  holds : Holds atom_count (module_scope heads modules m)
  holds = record {
    owners = owners_open heads (module_owners heads modules m);
    meanings = definitions_meant atom_count heads (module_atoms heads modules m) (module_owners heads modules m) [] m.defines (owners_open heads (module_owners heads modules m)) (none_meant atom_count);
  }

  -- own names
  abbrev first_names : List OwnName
  first_names = map (param_name (param_scope heads modules m) (is_plain m.kind)) m.params

  abbrev names_after : List Name → List Line → List OwnName
  names_after us ls = map (use_name heads modules (module_atoms heads modules m)) us ++ line_names heads modules (module_atoms heads modules m) (early_owners heads modules m) ls

  early_within : Within (early_owners heads modules m) (module_owners heads modules m)
  early_within o i = In-left o (early_owners heads modules m) (line_owners heads modules m.lines) i

  early_count : length (early_owners heads modules m) ≡ length m.params + length (map (use_name heads modules (module_atoms heads modules m)) m.uses)
  early_count =
      let a = params_count heads modules (is_plain m.kind) m in
      let b = length-map m.uses (use_owner (head_names heads) modules) in
      let c = length-map m.uses (use_name heads modules (module_atoms heads modules m)) in
      let d = length-append (param_owners heads modules m) (use_owners heads modules m.uses) in
      omega (arith, a, b, c, d)

  rest_own : (plain : Bool) → is_plain m.kind ≡ plain → AllOwn p the_scope plain (length m.params) (names_after m.uses m.lines)
  rest_own true e =
      let bare = plain_is_bare m.kind m form e in
      let nothing : names_after m.uses m.lines ≡ [] = ap (λ us. names_after us m.lines) bare.uses ∙ ap (λ ls. names_after [] ls) bare.lines in
      let P : List OwnName → Type 0 = λ l. AllOwn p the_scope true (length m.params) l in
      subst P (sym nothing) tt
  rest_own false e =
      let owners = module_owners heads modules m in
      own_append p the_scope false (length m.params) (map (use_name heads modules (module_atoms heads modules m)) m.uses)
      (line_names heads modules (module_atoms heads modules m) (early_owners heads modules m) m.lines) (length (early_owners heads modules m)) early_count
      (uses_own p the_scope heads modules knows owners opens (length m.params) m.uses e count
      (λ o i. early_within o (In-right o (param_owners heads modules m) (use_owners heads modules m.uses) i)) sound.uses)
      (lines_own p the_scope heads modules knows owners opens (early_owners heads modules m) m.lines e count early_within
      (λ o i. In-right o (early_owners heads modules m) (line_owners heads modules m.lines) i) sound.lines)

  all_own : AllOwn p the_scope (is_plain m.kind) 0 (module_own heads modules m)
  all_own =
      let owners = module_owners heads modules m in
      let params_within : Within (param_owners heads modules m) owners =
      λ o i. early_within o (In-left o (param_owners heads modules m) (use_owners heads modules m.uses) i) in
      let l = length-map m.params (param_name (param_scope heads modules m) (is_plain m.kind)) in
      own_append p the_scope (is_plain m.kind) 0 first_names (names_after m.uses m.lines) (length m.params) (omega (arith, l))
      (params_own p the_scope heads modules knows owners opens (is_plain m.kind) (param_owners heads modules m) 0 m.params params_within params_within)
      (rest_own (is_plain m.kind) refl)

  own_count : length (owner_names (module_owners heads modules m)) ≡ length (module_own heads modules m)
  own_count =
      let uses = map (use_name heads modules (module_atoms heads modules m)) m.uses in
      let lines = line_names heads modules (module_atoms heads modules m) (early_owners heads modules m) m.lines in
      let a = length-map (module_owners heads modules m) (λ (o : Owner). o.name) in
      let b = length-append (early_owners heads modules m) (line_owners heads modules m.lines) in
      let c = length-map m.lines (line_owner (head_names heads) modules) in
      let d = length-append first_names (uses ++ lines) in
      let e = length-append uses lines in
      let f = length-map m.params (param_name (param_scope heads modules m) (is_plain m.kind)) in
      let g = lines_length heads modules (module_atoms heads modules m) (early_owners heads modules m) m.lines in
      let h = early_count in
      omega (arith, a, b, c, d, e, f, g, h)

  -- what its bodies are read in
  pub module_reads : ReadsIn p the_scope (module_within heads modules m)
  module_reads = record {
    plain = refl;
    own = own_count;
    types = λ u e. use_stands p atom_count (module_scope heads modules m) holds knows (is_plain m.kind) u;
    effects = λ x e. effect_below p atom_count (module_scope heads modules m) holds knows (is_plain m.kind) x;
  }

  pub module_parts_are : OfParts (module_within heads modules m) m.parts the_scope
  module_parts_are = record { literals = refl; start = refl; bodies = refl }

  start_bare : is_plain m.kind ≡ true → start_effect heads modules (module_scope heads modules m) m.init ≡ []
  start_bare e = ap (start_effect heads modules (module_scope heads modules m)) (plain_is_bare m.kind m form e).init

  is_ascribed : IsAscribed p the_scope m.kind (type_number (head_names heads) m.sealed.text)
  is_ascribed =
      let o = type_number (head_names heads) m.sealed.text in
      let s = is_sealed heads modules m o sound.sealed in
      let known : IsType p (Some s.number) = subst (λ v. IsType p v) s.is (number_known p heads m.sealed.text knows) in
      let P : Option ℕ → Type 0 = λ v. IsAscribed p the_scope m.kind v in
      subst P (sym s.is)
      (ascribed heads modules p the_scope m.kind (module_meanings heads modules m) s.number knows (is_module m.kind m form)
      (ap (definitions_at heads modules (is_plain m.kind) (module_meanings heads modules m)) s.is) known)

  names_apart : Apart (own_texts (module_own heads modules m))
  names_apart =
      own_apart heads modules (module_atoms heads modules m) first_names (param_names m.params) m.uses (early_owners heads modules m) m.lines
      (param_texts (param_scope heads modules m) (is_plain m.kind) m.params) sound.names

  -- the upper bounds of its atoms
  bounds_fit : KnowsMembers p heads → DeclarationsFit p → BoundsFit atom_count (bounds_of_owners heads (module_atoms heads modules m) (module_owners heads modules m))
  bounds_fit members declared =
      let atoms = module_atoms heads modules m in
      let owners = param_owners heads modules m in
      scope_bounds_fit p heads members declared (module_own heads modules m) (module_owners heads modules m)
      (all_follow heads modules p members first_names owners atoms m.uses m.lines (params_follow p heads members atoms owners (is_plain m.kind) m.params)) names_apart

  pub module_fits : KnowsMembers p heads → DeclarationsFit p → atom_count ≤ 512 → length m.params ≤ 16 → BodiesFit p the_scope → ScopeFits p the_scope
  module_fits members declared few few_params b = record {
    ascribed = is_ascribed;
    definitions = definitions_below heads modules atom_count (is_plain m.kind) (module_meanings heads modules m) (type_number (head_names heads) m.sealed.text) holds.meanings;
    bounds = bounds_fit members declared;
    names = λ k n e. (let f = own_at p the_scope (is_plain m.kind) (module_own heads modules m) all_own k n e in (f.written, f.origin));
    starts = (start_is m.kind _ (is_module m.kind m form), b.starts, start_below heads modules atom_count (module_scope heads modules m) m.init holds);
    bodies = b.bodies;
    written = b.written;
    fields = b.fields;
    no_effect = no_effects m.kind (start_effect heads modules (module_scope heads modules m) m.init) _ start_bare b.no_effect;
    own_literal = b.own_literal;
    no_own_body = λ e. absurd (is_module m.kind m form e);
    vals = b.vals;
    numbered = b.numbered;
    captured = b.captured;
    captured_parameters = b.captured_parameters;
    own_names = names_apart;
    field_names = b.field_names;
    method_names = b.method_names;
    atoms = few;
    few_fields = b.few_fields;
    few_methods = b.few_methods;
    few_parameters = b.few_parameters;
    few_grants = (let c = module_grants heads modules m in omega (arith, c));
    few_module_parameters = (let c = module_parameters heads modules m in omega (arith, c, few_params));
  }
