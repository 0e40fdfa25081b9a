-- Short forms of programs, for the worked examples. What blocks do counts for nothing here, so each is `()`.
use Rattle.std.specs.Prelude.{codes, ℕ, List, [], ◌∷◌, ◌++◌, map, length, replicate, Some, None}
use Rattle.wy_text.specs.declared.fault.Place.{Place}
use Rattle.wy_text.specs.declared.fault.AtomName.{AtomName}
use Rattle.wy_effects.specs.AtomTable.{atom_name}
use Rattle.wy_types.specs.declared.types.TypeRef.{TypeRef}
use Rattle.wy_types.specs.declared.types.TypeRef.TheVariants.{Text, Unit as Nothing, Named}
use Rattle.wy_types.specs.declared.types.Method.{Method}
use Rattle.wy_types.specs.declared.resolved.TypeDecl.{TypeDecl}
use Rattle.wy_types.specs.declared.resolved.Origin.{Origin}
use Rattle.wy_types.specs.declared.resolved.OwnName.{OwnName}
use Rattle.wy_types.specs.declared.resolved.ScopeKind.{ScopeKind}
use Rattle.wy_types.specs.declared.resolved.ScopeKind.TheVariants as kind
use Rattle.wy_types.specs.Code as code
use Rattle.wy_types.specs.Primitive.{primitive_types}
use Rattle.wy_types.specs.Program.{Program, Scope, Body, Init, Run}

abbrev pub at : ℕ → ℕ → Place
at line column = record { file = 1; line = line; column = column }

abbrev pub nothing : code.Block
nothing = code.Last (code.Plain (code.Nothing (at 1 1)))

abbrev pub method : List ℕ → List TypeRef → List ℕ → TypeRef → Method
method name params effect result = record { name = name; params = params; effect = effect; result = result }

-- a type that is declared: its abstract members, its methods
abbrev pub declaration : List ℕ → List (List ℕ) → List Method → TypeDecl
declaration name members methods = record { name = name; members = members; bounds = replicate (length members) None; defined = []; methods = methods }

abbrev pub own : List ℕ → TypeRef → Origin → OwnName
own name typ origin = record { name = name; place = at 1 1; typ = typ; origin = origin }

-- a method of the module, by 0, or of a literal, with its effect
abbrev pub body : ℕ → List ℕ → List ℕ → Body
body owner name effect = record { owner = owner; place = at 1 1; signature = method name [] effect Nothing; block = nothing }

abbrev pub atoms_of : List ℕ → List (List ℕ) → List AtomName
atoms_of owner members = map (atom_name owner) members

abbrev pub folder_members : List (List ℕ)
folder_members = codes "Read" ∷ codes "Write" ∷ codes "Append" ∷ codes "List" ∷ []

abbrev pub console_members : List (List ℕ)
console_members = codes "In" ∷ codes "Out" ∷ []

-- a folder and a console whose atoms begin at a number
abbrev pub folder_from : ℕ → ℕ → ℕ → ℕ → TypeRef
folder_from a b c d = Named 1 ((a ∷ []) ∷ (b ∷ []) ∷ (c ∷ []) ∷ (d ∷ []) ∷ [])

abbrev pub console_from : ℕ → ℕ → TypeRef
console_from a b = Named 0 ((a ∷ []) ∷ (b ∷ []) ∷ [])

-- a module: its name, atoms, own names, the type that it is sealed at, what it defines, and its bodies
abbrev pub module_of : ScopeKind → List ℕ → List AtomName → List OwnName → ℕ → List (List ℕ) → List Body → Scope
module_of k name atoms names sealed definitions bodies = record {
  kind = k;
  name = name;
  place = at 1 1;
  atoms = atoms;
  bounds = replicate (length atoms) None;
  names = names;
  ascribed = Some sealed;
  definitions = definitions;
  literals = record { captures = []; fields = [] } ∷ [];
  start_place = at 1 1;
  start_effect = [];
  start = Init code.none;
  bodies = bodies;
}

-- the program: its atoms, own names, the effect of `run`, and the methods of its literals
abbrev pub main_of : List AtomName → List OwnName → List ℕ → List Body → Scope
main_of atoms names effect bodies = record {
  kind = kind.Program;
  name = codes "main";
  place = at 1 1;
  atoms = atoms;
  bounds = replicate (length atoms) None;
  names = names;
  ascribed = None;
  definitions = [];
  literals = record { captures = []; fields = [] } ∷ [];
  start_place = at 1 1;
  start_effect = effect;
  start = Run nothing;
  bodies = bodies;
}

abbrev pub program : List TypeDecl → List Scope → Program
program types scopes = record { declarations = primitive_types ++ types; scopes = scopes }

-- type Logger
--   effect Log
--   def log(t: String): {Log} Unit
abbrev pub logger_type : TypeDecl
logger_type = declaration (codes "Logger") (codes "Log" ∷ []) (method (codes "log") (Text ∷ []) (0 ∷ []) Nothing ∷ [])
