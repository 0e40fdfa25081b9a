-- The scope of a program block whose names are not refused fits, where its bodies do.
use Rattle.std.proofs.Common.{◌≡◌, ℕ, ◌+◌, ◌≤◌, List, [], ◌++◌, map, length, false, refl, arith}
use Rattle.std.proofs.lemmas.List.{length-map, length-append}
use Rattle.wy_text.specs.Members.{Within, Apart}
use Rattle.wy_effects.specs.Bounds.{BoundsFit}
use Rattle.wy_text.proofs.Lists.{In-left, In-right}
use Rattle.wy_types.specs.declared.resolved.OwnName.{OwnName}
use Rattle.wy_types.specs.Program.{Program, Scope}
use Rattle.wy_types.specs.Types.{methods_of_owner}
use Rattle.wy_types.specs.Core.{ScopeFits}
use Rattle.wy_symbols.specs.declared.scoping.Head.{Head}
use Rattle.wy_symbols.specs.declared.scoping.Owner.{Owner}
use Rattle.wy_symbols.specs.Declarations.{ModuleTree, ProgramTree, repeated}
use Rattle.wy_symbols.specs.Atoms.{bounds_of_owners, head_names, set_refusals, grant_owner, use_owner, line_owner, owner_names}
use Rattle.wy_heads.specs.Lines.{grant_name, grant_refusals, use_name, uses_refusals, line_names, lines_refusals}
use Rattle.wy_bodies.specs.Sight.{outermost}
use Rattle.wy_bodies.specs.Bodies.{at_start}
use Rattle.wy_heads.specs.ScopeHeads.{grant_names, line_words, use_owners, line_owners, grant_owners, program_owners, program_atoms, program_scope, program_own}
use Rattle.wy_names.specs.Scopes.{program_within, scope_of_program, program_refusals}
use Rattle.wy_bodies.specs.BodyRefusals.{tail_refusals}
use Rattle.wy_well_formed.proofs.Scoping.{ReadsIn, OfBody, BodiesFit}
use Rattle.wy_well_formed.proofs.Repeats.{append_empty}
use Rattle.wy_well_formed.proofs.Sets.{AllOpen, Holds, set_below}
use Rattle.wy_well_formed.proofs.AtomsThere.{owners_open}
use Rattle.wy_well_formed.proofs.Meant.{none_meant}
use Rattle.wy_well_formed.proofs.WrittenTypes.{Knows, use_stands, effect_below}
use Rattle.wy_well_formed.proofs.OwnNames.{AllOwn, own_at, own_append, grants_own, uses_own, lines_own}
use Rattle.wy_well_formed.proofs.OwnApart.{own_texts, grant_texts, own_apart, lines_length}
use Rattle.wy_well_formed.proofs.Known.{KnowsMembers}
use Rattle.wy_well_formed.proofs.OwnTyped.{grants_follow}
use Rattle.wy_well_formed.proofs.ScopeBounds.{DeclarationsFit, all_follow, scope_bounds_fit}
use Rattle.wy_well_formed.proofs.OwnCounts.{program_grants, program_parameters}

-- the refusals of a program block, part by part
pub record ProgramNotRefused (heads : List Head) (modules : List ModuleTree) (g : ProgramTree) : Type 0 where
  pub names : repeated [] (grant_names g.grants ++ (g.uses ++ line_words g.lines)) ≡ []
  pub grants : grant_refusals (head_names heads) g.grants ≡ []
  pub uses : uses_refusals heads modules (program_atoms heads modules g) g.uses ≡ []
  pub lines : lines_refusals heads modules (program_atoms heads modules g) (grant_owners heads modules g) g.lines ≡ []
  pub body : tail_refusals (program_within heads modules g) outermost at_start g.body ≡ []

pub program_not_refused : (heads : List Head) (modules : List ModuleTree) (g : ProgramTree) → program_refusals heads modules g ≡ [] → ProgramNotRefused heads modules g
program_not_refused heads modules g e =
    let a = append_empty (repeated [] (grant_names g.grants ++ (g.uses ++ line_words g.lines))) _ e in
    let b = append_empty (grant_refusals (head_names heads) g.grants) _ a.1 in
    let c = append_empty (uses_refusals heads modules (program_atoms heads modules g) g.uses) _ b.1 in
    let d = append_empty (lines_refusals heads modules (program_atoms heads modules g) (grant_owners heads modules g) g.lines) _ c.1 in
    let f = append_empty (set_refusals (program_scope heads modules g) g.effect) _ d.1 in
    record { names = a.0; grants = b.0; uses = c.0; lines = d.0; body = f.1 }

module _ (p : Program) (heads : List Head) (modules : List ModuleTree) (knows : Knows p heads) (count : length modules + 1 ≡ length p.scopes)
    (g : ProgramTree) (sound : ProgramNotRefused heads modules g) where
  abbrev the_scope : Scope
  the_scope = scope_of_program heads modules g

  abbrev atom_count : ℕ
  atom_count = length (program_atoms heads modules g)

  opens : AllOpen atom_count heads (program_atoms heads modules g) (program_owners heads modules g)
  opens = owners_open heads (program_owners heads modules g)

  holds : Holds atom_count (program_scope heads modules g)
  holds = record { owners = owners_open heads (program_owners heads modules g); meanings = none_meant atom_count }

  -- own names
  abbrev first_names : List OwnName
  first_names = map (grant_name (program_scope heads modules g)) g.grants

  abbrev use_own : List OwnName
  use_own = map (use_name heads modules (program_atoms heads modules g)) g.uses

  abbrev line_own : List OwnName
  line_own = line_names heads modules (program_atoms heads modules g) (grant_owners heads modules g) g.lines

  early_within : Within (grant_owners heads modules g) (program_owners heads modules g)
  early_within o i = In-left o (grant_owners heads modules g) (line_owners heads modules g.lines) i

  early_count : length (grant_owners heads modules g) ≡ length g.grants + length use_own
  early_count =
      let a = length-map g.grants (grant_owner (head_names heads)) in
      let b = length-map g.uses (use_owner (head_names heads) modules) in
      let c = length-map g.uses (use_name heads modules (program_atoms heads modules g)) in
      let d = length-append (map (grant_owner (head_names heads)) g.grants) (use_owners heads modules g.uses) in
      omega (arith, a, b, c, d)

  all_own : AllOwn p the_scope false 0 (program_own heads modules g)
  all_own =
      let owners = program_owners heads modules g in
      let grants = map (grant_owner (head_names heads)) g.grants in
      let l = length-map g.grants (grant_name (program_scope heads modules g)) in
      own_append p the_scope false 0 first_names (use_own ++ line_own) (length g.grants) (omega (arith, l))
      (grants_own p the_scope heads modules knows owners opens owners 0 g.grants refl
      (λ o i. early_within o (In-left o grants (use_owners heads modules g.uses) i)) sound.grants)
      (own_append p the_scope false (length g.grants) use_own line_own (length (grant_owners heads modules g)) early_count
      (uses_own p the_scope heads modules knows owners opens (length g.grants) g.uses refl count
      (λ o i. early_within o (In-right o grants (use_owners heads modules g.uses) i)) sound.uses)
      (lines_own p the_scope heads modules knows owners opens (grant_owners heads modules g) g.lines refl count early_within
      (λ o i. In-right o (grant_owners heads modules g) (line_owners heads modules g.lines) i) sound.lines))

  own_count : length (owner_names (program_owners heads modules g)) ≡ length (program_own heads modules g)
  own_count =
      let a = length-map (program_owners heads modules g) (λ (o : Owner). o.name) in
      let b = length-append (grant_owners heads modules g) (line_owners heads modules g.lines) in
      let c = length-map g.lines (line_owner (head_names heads) modules) in
      let d = length-append first_names (use_own ++ line_own) in
      let e = length-append use_own line_own in
      let f = length-map g.grants (grant_name (program_scope heads modules g)) in
      let h = lines_length heads modules (program_atoms heads modules g) (grant_owners heads modules g) g.lines in
      let i = early_count in
      omega (arith, a, b, c, d, e, f, h, i)

  -- what its bodies are read in
  pub program_reads : ReadsIn p the_scope (program_within heads modules g)
  program_reads = record {
    plain = refl;
    own = own_count;
    types = λ u e. use_stands p atom_count (program_scope heads modules g) holds knows false u;
    effects = λ x e. effect_below p atom_count (program_scope heads modules g) holds knows false x;
  }

  pub program_body_is : OfBody (program_within heads modules g) g the_scope
  program_body_is = record { literals = refl; start = refl; bodies = refl }

  names_apart : Apart (own_texts (program_own heads modules g))
  names_apart =
      own_apart heads modules (program_atoms heads modules g) first_names (grant_names g.grants) g.uses (grant_owners heads modules g) g.lines
      (grant_texts (program_scope heads modules g) g.grants) sound.names

  -- the upper bounds of its atoms
  bounds_fit : KnowsMembers p heads → DeclarationsFit p → BoundsFit atom_count (bounds_of_owners heads (program_atoms heads modules g) (program_owners heads modules g))
  bounds_fit members declared =
      let atoms = program_atoms heads modules g in
      let owners = map (grant_owner (head_names heads)) g.grants in
      scope_bounds_fit p heads members declared (program_own heads modules g) (program_owners heads modules g)
      (all_follow heads modules p members first_names owners atoms g.uses g.lines (grants_follow p heads members atoms (program_owners heads modules g) g.grants)) names_apart

  pub program_fits : KnowsMembers p heads → DeclarationsFit p → atom_count ≤ 512 → length g.grants ≤ 64 → methods_of_owner 0 (the_scope.bodies) ≡ [] → BodiesFit p the_scope →
      ScopeFits p the_scope
  program_fits members declared few few_given none b = record {
    ascribed = refl;
    definitions = λ s i. absurd i;
    bounds = bounds_fit members declared;
    names = λ k n e. (let f = own_at p the_scope false (program_own heads modules g) all_own k n e in (f.written, f.origin));
    starts = (tt, b.starts, set_below atom_count (program_scope heads modules g) holds g.effect);
    bodies = b.bodies;
    written = b.written;
    fields = b.fields;
    no_effect = tt;
    own_literal = b.own_literal;
    no_own_body = λ e. none;
    vals = b.vals;
    numbered = b.numbered;
    captured = b.captured;
    captured_parameters = b.captured_parameters;
    own_names = names_apart;
    field_names = b.field_names;
    method_names = b.method_names;
    atoms = few;
    few_fields = b.few_fields;
    few_methods = b.few_methods;
    few_parameters = b.few_parameters;
    few_grants = (let c = program_grants heads modules g in omega (arith, c, few_given));
    few_module_parameters = (let c = program_parameters heads modules g in omega (arith, c));
  }
