-- What a scope has besides its atoms, part by part.
use Rattle.std.specs.Prelude.{◌≡◌, ◌∷◌, [], ℕ, List, map, Option}
use Rattle.wy_text.specs.declared.fault.Place.{Place}
use Rattle.wy_text.specs.declared.fault.AtomName.{AtomName}
use Rattle.wy_types.specs.declared.resolved.ScopeKind.{ScopeKind}
use Rattle.wy_types.specs.Types.{is_plain}
use Rattle.wy_types.specs.Program.{Scope, body_of, start_of, Init, Run}
use Rattle.wy_names.specs.declared.scopes.Parts.{Parts}
use Rattle.wy_symbols.specs.declared.scoping.Head.{Head}
use Rattle.wy_symbols.specs.Declarations.{ModuleTree, ProgramTree}
use Rattle.wy_symbols.specs.Atoms.{bounds_of_owners, head_names, type_number, set_of}
use Rattle.wy_bodies.specs.Sight.{outermost, inside}
use Rattle.wy_bodies.specs.Bodies.{at_start, part_values, tail_block, literal_of, parts_literals, tail_literals, parts_bodies, tail_bodies}
use Rattle.wy_heads.specs.ScopeHeads.{module_atoms, module_owners, module_own, module_meanings, module_scope, definitions_at, start_effect, program_atoms, program_owners, program_own, program_scope}
use Rattle.wy_names.specs.Scopes.{module_within, program_within}

module _ (heads : List Head) (modules : List ModuleTree) where
  pub record ArePartsOfModule (m : ModuleTree) (p : Parts) : Type 0 where
    pub bounds : p.bounds ≡ bounds_of_owners heads (module_atoms heads modules m) (module_owners heads modules m)
    pub names : p.names ≡ module_own heads modules m
    pub definitions : p.definitions ≡ definitions_at heads modules (is_plain m.kind) (module_meanings heads modules m) (type_number (head_names heads) m.sealed.text)
    pub effect : p.start_effect ≡ start_effect heads modules (module_scope heads modules m) m.init
    pub literals : p.resolved.literals ≡ literal_of (module_within heads modules m) outermost m.parts ∷ parts_literals (module_within heads modules m) outermost (inside outermost m.parts) at_start m.parts
    pub start : start_of p.resolved.start ≡ Init (part_values (module_within heads modules m) outermost at_start m.parts)
    pub bodies : map body_of p.resolved.bodies ≡ parts_bodies (module_within heads modules m) outermost (inside outermost m.parts) 0 at_start m.parts

  pub record ArePartsOfProgram (g : ProgramTree) (p : Parts) : Type 0 where
    pub bounds : p.bounds ≡ bounds_of_owners heads (program_atoms heads modules g) (program_owners heads modules g)
    pub names : p.names ≡ program_own heads modules g
    pub definitions : p.definitions ≡ []
    pub effect : p.start_effect ≡ set_of (program_scope heads modules g) g.effect
    pub literals : p.resolved.literals ≡ record { captures = []; fields = [] } ∷ tail_literals (program_within heads modules g) outermost at_start g.body
    pub start : start_of p.resolved.start ≡ Run (tail_block (program_within heads modules g) g.run outermost at_start g.body)
    pub bodies : map body_of p.resolved.bodies ≡ tail_bodies (program_within heads modules g) outermost at_start g.body

-- a scope of these parts
abbrev pub scope_with : ScopeKind → List ℕ → Place → List AtomName → Option ℕ → Place → Parts → Scope
scope_with kind name place atoms ascribed at p = record {
  kind = kind;
  name = name;
  place = place;
  atoms = atoms;
  bounds = p.bounds;
  names = p.names;
  ascribed = ascribed;
  definitions = p.definitions;
  literals = p.resolved.literals;
  start_place = at;
  start_effect = p.start_effect;
  start = start_of p.resolved.start;
  bodies = map body_of p.resolved.bodies;
}
