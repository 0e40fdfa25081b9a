-- Modules and the program with their names resolved.
use Rattle.std.specs.Prelude.{codes, false, List, [], ◌∷◌, ◌++◌, map, None}
use Rattle.wy_syntax.specs.Trees.{ItemTree}
use Rattle.wy_types.specs.declared.resolved.ScopeKind.TheVariants as kind
use Rattle.wy_types.specs.declared.resolved.TypeDecl.{TypeDecl}
use Rattle.wy_types.specs.Primitive.{primitive_types}
use Rattle.wy_types.specs.Program as core
use Rattle.wy_types.specs.Program.{Program, Scope}
use Rattle.wy_types.specs.Types.{is_plain}
use Rattle.wy_symbols.specs.declared.refusal.Cause.TheVariants.{TwoPrograms}
use Rattle.wy_symbols.specs.declared.refusal.Refusal.{Refusal}
use Rattle.wy_symbols.specs.declared.scoping.Head.{Head}
use Rattle.wy_symbols.specs.Least.{refusal_at}
use Rattle.wy_symbols.specs.Declarations.{ModuleTree, ProgramTree, types_of, modules_of, programs_of, module_names, type_names, repeated}
use Rattle.wy_symbols.specs.Atoms.{bounds_of_owners, head_names, type_number, set_of, set_refusals, heads_over, table_names, owner_names}
use Rattle.wy_symbols.specs.TypeUses.{declarations_over, declarations_refusals, param_names}
use Rattle.wy_heads.specs.Lines.{param_refusals, grant_refusals, uses_refusals, lines_refusals}
use Rattle.wy_bodies.specs.Sight.{outermost, inside}
use Rattle.wy_bodies.specs.Bodies.{Within, at_start, part_values, tail_block, literal_of, parts_literals, tail_literals, parts_bodies, tail_bodies}
use Rattle.wy_bodies.specs.BodyRefusals.{repeated_parts, parts_refusals, tail_refusals}
use Rattle.wy_heads.specs.ScopeHeads.{definitions_refusals, define_names, grant_names, line_words, early_owners, module_owners, module_atoms, module_meanings, module_scope, param_scope, module_own, definitions_at, start_place, start_effect, sealed_refusals, init_refusals, grant_owners, program_owners, program_atoms, program_scope, program_own}

------------------------------------------------------------
-- Modules

module _ (heads : List Head) (modules : List ModuleTree) where
  abbrev pub module_within : ModuleTree → Within
  module_within m = record { atoms = module_scope heads modules m; plain = is_plain m.kind; own = owner_names (module_owners heads modules m) }

  abbrev pub scope_of_module : ModuleTree → Scope
  scope_of_module m =
      let w = module_within m in
      record {
        kind = m.kind;
        name = m.name.text;
        place = m.name.place;
        atoms = module_atoms heads modules m;
        bounds = bounds_of_owners heads (module_atoms heads modules m) (module_owners heads modules m);
        names = module_own heads modules m;
        ascribed = type_number (head_names heads) m.sealed.text;
        definitions = definitions_at heads modules (is_plain m.kind) (module_meanings heads modules m) (type_number (head_names heads) m.sealed.text);
        literals = literal_of w outermost m.parts ∷ parts_literals w outermost (inside outermost m.parts) at_start m.parts;
        start_place = start_place heads modules m m.init;
        start_effect = start_effect heads modules (module_scope heads modules m) m.init;
        start = core.Init (part_values w outermost at_start m.parts);
        bodies = parts_bodies w outermost (inside outermost m.parts) 0 at_start m.parts;
      }

  abbrev pub module_refusals : ModuleTree → List Refusal
  module_refusals m =
      sealed_refusals heads modules m (type_number (head_names heads) m.sealed.text) ++
      (repeated [] (param_names m.params ++ (m.uses ++ line_words m.lines)) ++
      (param_refusals (param_scope heads modules m) (is_plain m.kind) m.params ++
      (uses_refusals heads modules (module_atoms heads modules m) m.uses ++
      (lines_refusals heads modules (module_atoms heads modules m) (early_owners heads modules m) m.lines ++
      (repeated [] (define_names m.defines) ++
      (definitions_refusals heads (module_atoms heads modules m) (module_owners heads modules m) [] m.defines ++
      (init_refusals heads modules (module_scope heads modules m) m.init ++
      (repeated_parts m.parts ++
      parts_refusals (module_within m) outermost (inside outermost m.parts) at_start m.parts))))))))

  abbrev pub modules_refusals : List ModuleTree → List Refusal
  modules_refusals [] = []
  modules_refusals (m ∷ ms) = module_refusals m ++ modules_refusals ms

  ------------------------------------------------------------
  -- The program

  abbrev pub program_within : ProgramTree → Within
  program_within g = record { atoms = program_scope heads modules g; plain = false; own = owner_names (program_owners heads modules g) }

  -- its name is the reserved word, which no module has; it is at the word `program`
  abbrev pub scope_of_program : ProgramTree → Scope
  scope_of_program g =
      let w = program_within g in
      record {
        kind = kind.Program;
        name = codes "main";
        place = g.place;
        atoms = program_atoms heads modules g;
        bounds = bounds_of_owners heads (program_atoms heads modules g) (program_owners heads modules g);
        names = program_own heads modules g;
        ascribed = None;
        definitions = [];
        literals = record { captures = []; fields = [] } ∷ tail_literals w outermost at_start g.body;
        start_place = g.run;
        start_effect = set_of (program_scope heads modules g) g.effect;
        start = core.Run (tail_block w g.run outermost at_start g.body);
        bodies = tail_bodies w outermost at_start g.body;
      }

  abbrev pub program_refusals : ProgramTree → List Refusal
  program_refusals g =
      repeated [] (grant_names g.grants ++ (g.uses ++ line_words g.lines)) ++
      (grant_refusals (head_names heads) g.grants ++
      (uses_refusals heads modules (program_atoms heads modules g) g.uses ++
      (lines_refusals heads modules (program_atoms heads modules g) (grant_owners heads modules g) g.lines ++
      (set_refusals (program_scope heads modules g) g.effect ++
      tail_refusals (program_within g) outermost at_start g.body))))

  abbrev pub programs_refusals : List ProgramTree → List Refusal
  programs_refusals [] = []
  programs_refusals (g ∷ gs) = program_refusals g ++ programs_refusals gs

------------------------------------------------------------
-- All files

-- each program block after the first is refused
abbrev pub second_programs : List ProgramTree → List Refusal
second_programs [] = []
second_programs (g ∷ gs) = map (λ (h : ProgramTree). refusal_at h.place TwoPrograms) gs

-- the refusals that stand at a place, but for cycles, over a table of primitive types
abbrev pub refusals_over : List TypeDecl → List ItemTree → List Refusal
refusals_over table items =
    let types = types_of items in
    let modules = modules_of items in
    let programs = programs_of items in
    let heads = heads_over table types in
    repeated (table_names table) (type_names types) ++
    (repeated [] (module_names modules) ++
    (declarations_refusals heads types ++
    (modules_refusals heads modules modules ++
    (programs_refusals heads modules programs ++
    second_programs programs))))

-- the modules in file order and then the program, with the primitive types before the declared ones
abbrev pub resolved_over : List TypeDecl → List ItemTree → ProgramTree → Program
resolved_over table items g = record {
  declarations = declarations_over table (heads_over table (types_of items)) (types_of items);
  scopes =
      map (scope_of_module (heads_over table (types_of items)) (modules_of items)) (modules_of items) ++
      scope_of_program (heads_over table (types_of items)) (modules_of items) g ∷ [];
}

-- over today's table
abbrev pub refusals_of : List ItemTree → List Refusal
refusals_of items = refusals_over primitive_types items

abbrev pub resolved : List ItemTree → ProgramTree → Program
resolved items g = resolved_over primitive_types items g
