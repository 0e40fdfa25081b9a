-- What stands in front of the bodies of a scope: its owners, atoms, own names and definitions.
use Rattle.std.specs.Prelude.{ℕ, Bool, true, false, List, [], ◌∷◌, ◌++◌, map, Option, Some, None}
use Rattle.wy_text.specs.declared.fault.Place.{Place}
use Rattle.wy_text.specs.declared.fault.AtomName.{AtomName}
use Rattle.wy_syntax.specs.declared.types.Name.{Name}
use Rattle.wy_syntax.specs.declared.items.Line.{Line}
use Rattle.wy_syntax.specs.declared.items.Define.{Define}
use Rattle.wy_syntax.specs.declared.items.Init.{Init}
use Rattle.wy_syntax.specs.declared.items.Grant.{Grant}
use Rattle.wy_types.specs.declared.resolved.OwnName.{OwnName}
use Rattle.wy_types.specs.Types.{is_plain}
use Rattle.wy_symbols.specs.declared.refusal.Refusal.{Refusal}
use Rattle.wy_symbols.specs.declared.scoping.Meaning.{Meaning}
use Rattle.wy_symbols.specs.declared.scoping.Head.{Head}
use Rattle.wy_symbols.specs.declared.scoping.Owner.{Owner}
use Rattle.wy_symbols.specs.Declarations.{ModuleTree, ProgramTree, texts}
use Rattle.wy_symbols.specs.Meanings.{abstract_names, meaning_of}
use Rattle.wy_symbols.specs.Atoms.{AtomScope, unknown, head_names, members_of, meaning_set, atoms_of, params_owners, grant_owner, use_owner, line_owner, defined_member, set_of, set_refusals, atom_scope}
use Rattle.wy_symbols.specs.TypeUses.{lacking, not_abstract}
use Rattle.wy_heads.specs.Lines.{param_name, grant_name, use_name, line_names}
use Rattle.wy_symbols.specs.Things.{line_word}

-- what a module defines, in its order; the set of each sees those before it
abbrev pub definitions_after : List Head → List AtomName → List Owner → List Meaning → List Define → List Meaning
definitions_after heads atoms owners before [] = before
definitions_after heads atoms owners before (d ∷ ds) =
    definitions_after heads atoms owners (before ++ defined_member d.name.text (set_of (atom_scope heads atoms owners before) d.effect) ∷ []) ds

abbrev pub definitions_refusals : List Head → List AtomName → List Owner → List Meaning → List Define → List Refusal
definitions_refusals heads atoms owners before [] = []
definitions_refusals heads atoms owners before (d ∷ ds) =
    set_refusals (atom_scope heads atoms owners before) d.effect ++
    definitions_refusals heads atoms owners (definitions_after heads atoms owners before (d ∷ [])) ds

abbrev pub define_names : List Define → List Name
define_names ds = map (λ (d : Define). d.name) ds

-- own names in order of their words
abbrev pub grant_names : List Grant → List Name
grant_names gs = map (λ (g : Grant). g.name) gs

abbrev pub line_words : List Line → List Name
line_words ls = map line_word ls

------------------------------------------------------------
-- Modules

module _ (heads : List Head) (modules : List ModuleTree) where
  abbrev pub param_owners : ModuleTree → List Owner
  param_owners m = params_owners (head_names heads) (is_plain m.kind) m.params

  abbrev pub use_owners : List Name → List Owner
  use_owners us = map (use_owner (head_names heads) modules) us

  abbrev pub line_owners : List Line → List Owner
  line_owners ls = map (line_owner (head_names heads) modules) ls

  -- parameters, then used modules
  abbrev pub early_owners : ModuleTree → List Owner
  early_owners m = param_owners m ++ use_owners m.uses

  abbrev pub module_owners : ModuleTree → List Owner
  module_owners m = early_owners m ++ line_owners m.lines

  abbrev pub module_atoms : ModuleTree → List AtomName
  module_atoms m = atoms_of heads (module_owners m)

  abbrev pub module_meanings : ModuleTree → List Meaning
  module_meanings m = definitions_after heads (module_atoms m) (module_owners m) [] m.defines

  -- what sets in a module see
  abbrev pub module_scope : ModuleTree → AtomScope
  module_scope m = atom_scope heads (module_atoms m) (module_owners m) (module_meanings m)

  -- a set in a parameter's type sees parameters alone
  abbrev pub param_scope : ModuleTree → AtomScope
  param_scope m = atom_scope heads (module_atoms m) (param_owners m) []

  abbrev pub module_own : ModuleTree → List OwnName
  module_own m =
      map (param_name (param_scope m) (is_plain m.kind)) m.params ++
      (map (use_name heads modules (module_atoms m)) m.uses ++ line_names heads modules (module_atoms m) (early_owners m) m.lines)

  -- what a module defines for each abstract member of the type that it is sealed at
  abbrev pub definitions_for : List Meaning → List (List ℕ) → List (List ℕ)
  definitions_for meanings members = map (λ x. meaning_set (meaning_of meanings x)) members

  abbrev pub definitions_at : Bool → List Meaning → Option ℕ → List (List ℕ)
  definitions_at plain meanings None = []
  definitions_at true meanings (Some d) = []
  definitions_at false meanings (Some d) = definitions_for meanings (abstract_names (members_of heads d))

  abbrev pub start_place : ModuleTree → Option Init → Place
  start_place m None = m.place
  start_place m (Some i) = i.place

  abbrev pub start_effect : AtomScope → Option Init → List ℕ
  start_effect s None = []
  start_effect s (Some i) = set_of s i.effect

  -- the type that a module is sealed at is declared; an annotated module defines each abstract member of it, and nothing else
  abbrev pub defined_refusals : ModuleTree → Bool → List Meaning → List Refusal
  defined_refusals m true members = []
  defined_refusals m false members = lacking m.name members (texts (define_names m.defines)) ++ not_abstract members (define_names m.defines)

  abbrev pub sealed_refusals : ModuleTree → Option ℕ → List Refusal
  sealed_refusals m None = unknown m.sealed
  sealed_refusals m (Some d) = defined_refusals m (is_plain m.kind) (members_of heads d)

  abbrev pub init_refusals : AtomScope → Option Init → List Refusal
  init_refusals s None = []
  init_refusals s (Some i) = set_refusals s i.effect

  ------------------------------------------------------------
  -- The program

  abbrev pub grant_owners : ProgramTree → List Owner
  grant_owners g = map (grant_owner (head_names heads)) g.grants ++ use_owners g.uses

  abbrev pub program_owners : ProgramTree → List Owner
  program_owners g = grant_owners g ++ line_owners g.lines

  abbrev pub program_atoms : ProgramTree → List AtomName
  program_atoms g = atoms_of heads (program_owners g)

  abbrev pub program_scope : ProgramTree → AtomScope
  program_scope g = atom_scope heads (program_atoms g) (program_owners g) []

  abbrev pub program_own : ProgramTree → List OwnName
  program_own g =
      map (grant_name (program_scope g)) g.grants ++
      (map (use_name heads modules (program_atoms g)) g.uses ++ line_names heads modules (program_atoms g) (grant_owners g) g.lines)
