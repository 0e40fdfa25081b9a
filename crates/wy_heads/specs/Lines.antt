-- A scope's own names: its parameters or grants, its used modules and its lines, with their types.
use Rattle.std.specs.Prelude.{ℕ, Bool, true, false, List, [], ◌∷◌, ◌++◌, map, Option, Some, None, if◌then◌else◌}
use Rattle.wy_text.specs.declared.fault.AtomName.{AtomName}
use Rattle.wy_syntax.specs.declared.types.Name.{Name}
use Rattle.wy_syntax.specs.declared.types.TypeUse.{TypeUse}
use Rattle.wy_syntax.specs.declared.types.TypeUse.TheVariants as use_of
use Rattle.wy_syntax.specs.declared.types.Param.{Param}
use Rattle.wy_syntax.specs.declared.items.Line.{Line}
use Rattle.wy_syntax.specs.declared.items.Line.TheVariants as line
use Rattle.wy_syntax.specs.declared.items.Grant.{Grant}
use Rattle.wy_types.specs.declared.types.TypeRef.{TypeRef}
use Rattle.wy_types.specs.declared.types.TypeRef.TheVariants as ref
use Rattle.wy_types.specs.declared.resolved.OwnName.{OwnName}
use Rattle.wy_types.specs.declared.resolved.Origin.TheVariants as origin
use Rattle.wy_symbols.specs.declared.refusal.Refusal.{Refusal}
use Rattle.wy_symbols.specs.declared.scoping.Head.{Head}
use Rattle.wy_symbols.specs.declared.scoping.Opening.{Opening}
use Rattle.wy_symbols.specs.declared.scoping.Opening.TheVariants.{Members, Nothing, Missing}
use Rattle.wy_symbols.specs.declared.scoping.Owner.{Owner}
use Rattle.wy_symbols.specs.Declarations.{ModuleTree, first_from, module_number}
use Rattle.wy_symbols.specs.Atoms.{AtomScope, unknown, head_names, owner_names, opened_names, module_opening, owner_sets, line_owner, param_opening, grant_owner, set_of, set_refusals}
use Rattle.wy_symbols.specs.TypeUses.{type_ref, type_refusals, plain_refusals}

abbrev pub number_or_zero : Option ℕ → ℕ
number_or_zero None = 0
number_or_zero (Some k) = k

-- the type with the owner's atoms for its members
abbrev pub opened_type : List Head → List AtomName → List ℕ → Opening → TypeRef
opened_type heads atoms owner (Members d) = ref.Named d (owner_sets atoms owner (opened_names heads (Members d)))
opened_type heads atoms owner Nothing = ref.Unit
opened_type heads atoms owner Missing = ref.Unit

------------------------------------------------------------
-- Parameters

abbrev pub is_bare : TypeUse → Bool
is_bare (use_of.Int p) = false
is_bare (use_of.Bool p) = false
is_bare (use_of.Text p) = false
is_bare (use_of.Unit p) = false
is_bare (use_of.Bare n) = true
is_bare (use_of.With n sets) = false
is_bare (use_of.At n set) = false

-- a bare parameter has its type with its own atoms, another one the type that is written; a plain module's is bare and opens none
abbrev pub param_type : AtomScope → List ℕ → TypeUse → TypeRef
param_type s name t = if is_bare t then opened_type s.heads s.atoms name (param_opening (head_names s.heads) t) else type_ref s false t

abbrev pub param_name : AtomScope → Bool → Param → OwnName
param_name s true p =
    record { name = p.name.text; place = p.name.place; typ = type_ref s true p.type_use; origin = origin.Parameter false }
param_name s false p =
    record { name = p.name.text; place = p.name.place; typ = param_type s p.name.text p.type_use; origin = origin.Parameter (is_bare p.type_use) }

abbrev pub param_refusals : AtomScope → Bool → List Param → List Refusal
param_refusals s plain [] = []
param_refusals s true (p ∷ ps) = plain_refusals s p.type_use ++ param_refusals s true ps
param_refusals s false (p ∷ ps) = type_refusals s true p.type_use ++ param_refusals s false ps

------------------------------------------------------------
-- Grants

abbrev pub grant_name : AtomScope → Grant → OwnName
grant_name s g = record {
  name = g.name.text;
  place = g.name.place;
  typ = opened_type s.heads s.atoms g.name.text ((grant_owner (head_names s.heads) g).opening);
  origin = origin.Grant;
}

abbrev pub unless_opened : Name → Opening → List Refusal
unless_opened n (Members d) = []
unless_opened n Nothing = unknown n
unless_opened n Missing = unknown n

-- Unknown at a type that is none of the primitive ones
abbrev pub grant_refusals : List (List ℕ) → List Grant → List Refusal
grant_refusals names [] = []
grant_refusals names (g ∷ gs) = unless_opened g.kind ((grant_owner names g).opening) ++ grant_refusals names gs

------------------------------------------------------------
-- Uses and lines

module _ (heads : List Head) (modules : List ModuleTree) (atoms : List AtomName) where
  -- the type that a module is sealed at, with the atoms that the name opens
  abbrev pub instance_type : List ℕ → Name → TypeRef
  instance_type x m = opened_type heads atoms x (module_opening (head_names heads) modules m.text)

  abbrev pub at_bound : Opening → List ℕ → TypeRef
  at_bound (Members d) bound = ref.At d bound
  at_bound Nothing bound = ref.Unit
  at_bound Missing bound = ref.Unit

  abbrev pub numbered : Name → ℕ
  numbered m = number_or_zero (module_number modules m.text)

  abbrev pub use_name : Name → OwnName
  use_name m = record { name = m.text; place = m.place; typ = instance_type m.text m; origin = origin.Use (numbered m) }

  -- arguments are numbers of earlier own names
  abbrev pub argument_numbers : List Owner → List Name → List ℕ
  argument_numbers before ns = map (λ (n : Name). number_or_zero (first_from 0 (owner_names before) n.text)) ns

  -- a line's set sees the names before it, and no definition
  abbrev pub line_scope : List Owner → AtomScope
  line_scope before = record { heads = heads; atoms = atoms; owners = before; meanings = [] }

  abbrev pub line_name : List Owner → Line → OwnName
  line_name before (line.Instance x m ns) = record {
    name = x.text;
    place = x.place;
    typ = instance_type x.text m;
    origin = origin.Instance (numbered m) (argument_numbers before ns);
  }
  line_name before (line.Import x m ns set) = record {
    name = x.text;
    place = x.place;
    typ = at_bound (module_opening (head_names heads) modules m.text) (set_of (line_scope before) set);
    origin = origin.Import (numbered m) (argument_numbers before ns) (set_of (line_scope before) set);
  }

  abbrev pub line_names : List Owner → List Line → List OwnName
  line_names before [] = []
  line_names before (l ∷ ls) = line_name before l ∷ line_names (before ++ line_owner (head_names heads) modules l ∷ []) ls

  abbrev pub unless_number : Name → Option ℕ → List Refusal
  unless_number n (Some k) = []
  unless_number n None = unknown n

  abbrev pub uses_refusals : List Name → List Refusal
  uses_refusals [] = []
  uses_refusals (m ∷ ms) = unless_number m (module_number modules m.text) ++ uses_refusals ms

  -- Unknown at an argument that is none of the names before the line
  abbrev pub argument_refusals : List Owner → List Name → List Refusal
  argument_refusals before [] = []
  argument_refusals before (n ∷ ns) = unless_number n (first_from 0 (owner_names before) n.text) ++ argument_refusals before ns

  abbrev pub line_refusals : List Owner → Line → List Refusal
  line_refusals before (line.Instance x m ns) = unless_number m (module_number modules m.text) ++ argument_refusals before ns
  line_refusals before (line.Import x m ns set) =
      unless_number m (module_number modules m.text) ++ (argument_refusals before ns ++ set_refusals (line_scope before) set)

  abbrev pub lines_refusals : List Owner → List Line → List Refusal
  lines_refusals before [] = []
  lines_refusals before (l ∷ ls) = line_refusals before l ++ lines_refusals (before ++ line_owner (head_names heads) modules l ∷ []) ls

-- the name of the module that a line makes an instance of
abbrev pub line_module : Line → Name
line_module (line.Instance x m ns) = m
line_module (line.Import x m ns set) = m
