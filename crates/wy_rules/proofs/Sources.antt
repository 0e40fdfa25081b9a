-- Short forms of programs, for the worked examples.
use Rattle.std.specs.Prelude.{codes, ℕ, List, [], ◌∷◌, ◌++◌, map, length, replicate, Some, None, true, false}
use Rattle.wy_text.specs.declared.fault.Place.{Place}
use Rattle.wy_text.specs.declared.fault.AtomName.{AtomName}
use Rattle.wy_effects.specs.AtomTable.{atom_name}
use Rattle.wy_types.specs.declared.types.TypeRef.{TypeRef}
use Rattle.wy_types.specs.declared.types.TypeRef.TheVariants.{Named}
use Rattle.wy_types.specs.declared.types.Method.{Method}
use Rattle.wy_types.specs.declared.code.Variable.TheVariants.{Parameter, Local}
use Rattle.wy_types.specs.declared.code.Binding.TheVariants as to
use Rattle.wy_types.specs.declared.resolved.TypeDecl.{TypeDecl}
use Rattle.wy_types.specs.declared.resolved.Field.{Field}
use Rattle.wy_types.specs.declared.resolved.Literal.{Literal}
use Rattle.wy_types.specs.declared.resolved.Origin.{Origin}
use Rattle.wy_types.specs.declared.resolved.OwnName.{OwnName}
use Rattle.wy_types.specs.declared.resolved.ScopeKind.{ScopeKind}
use Rattle.wy_types.specs.declared.resolved.ScopeKind.TheVariants as kind
use Rattle.wy_types.specs.Code as code
use Rattle.wy_types.specs.Primitive.{primitive_types}
use Rattle.wy_types.specs.Program.{Program, Scope, Body, Init, Run}

abbrev pub at : ℕ → ℕ → Place
at line column = record { file = 1; line = line; column = column }

------------------------------------------------------------
-- Values and blocks

abbrev pub parameter : Place → ℕ → ℕ → code.Expr
parameter place body index = code.Name place (to.Variable (Parameter body index))

abbrev pub local : Place → ℕ → code.Expr
local place n = code.Name place (to.Variable (Local n))

abbrev pub field : Place → ℕ → code.Expr
field place i = code.Name place (to.Field i)

abbrev pub own_name : Place → ℕ → code.Expr
own_name place k = code.Name place (to.Own k)

abbrev pub one : code.Expr → code.Values
one x = code.more (code.Plain x) code.none

abbrev pub two : code.Expr → code.Expr → code.Values
two x y = code.more (code.Plain x) (one y)

abbrev pub last : code.Expr → code.Block
last x = code.Last (code.Plain x)

abbrev pub then : code.Expr → code.Block → code.Block
then x b = code.Then (code.Plain x) b

------------------------------------------------------------
-- Declarations and scopes

abbrev pub method : List ℕ → List TypeRef → List ℕ → TypeRef → Method
method name params effect result = record { name = name; params = params; effect = effect; result = result }

-- a type that is declared: its abstract members, its methods
abbrev pub declaration : List ℕ → List (List ℕ) → List Method → TypeDecl
declaration name members methods = record { name = name; members = members; bounds = replicate (length members) None; defined = []; methods = methods }

abbrev pub own : Place → List ℕ → TypeRef → Origin → OwnName
own place name typ origin = record { name = name; place = place; typ = typ; origin = origin }

-- a `val` field and a `var` field
abbrev pub val_field : Place → List ℕ → TypeRef → Field
val_field place name typ = record { name = name; place = place; mutable = false; typ = typ }

abbrev pub var_field : Place → List ℕ → TypeRef → Field
var_field place name typ = record { name = name; place = place; mutable = true; typ = typ }

-- the module or a literal: its fields, with no captures
abbrev pub object : List Field → Literal
object fields = record { captures = []; fields = fields }

abbrev pub body : ℕ → Place → Method → code.Block → Body
body owner place m block = record { owner = owner; place = place; signature = m; block = block }

abbrev pub atoms_of : List ℕ → List (List ℕ) → List AtomName
atoms_of owner members = map (atom_name owner) members

abbrev pub folder_atoms : List ℕ → List AtomName
folder_atoms owner = atoms_of owner (codes "Read" ∷ codes "Write" ∷ codes "Append" ∷ codes "List" ∷ [])

-- a folder whose atoms are 0 to 3
abbrev pub folder : TypeRef
folder = Named 1 ((0 ∷ []) ∷ (1 ∷ []) ∷ (2 ∷ []) ∷ (3 ∷ []) ∷ [])

-- what a module is besides its bodies
pub record Head : Type 0 where
  pub kind : ScopeKind
  pub place : Place
  pub name : List ℕ
  pub atoms : List AtomName
  pub names : List OwnName
  pub sealed : ℕ
  pub definitions : List (List ℕ)

abbrev pub head : ScopeKind → Place → List ℕ → List AtomName → List OwnName → ℕ → List (List ℕ) → Head
head k place name atoms names sealed definitions = record { kind = k; place = place; name = name; atoms = atoms; names = names; sealed = sealed; definitions = definitions }

-- a module with an `init` at a place, of an effect
abbrev pub module_of : Head → List Literal → Place → List ℕ → code.Values → List Body → Scope
module_of h literals start effect values bodies = record {
  kind = h.kind;
  name = h.name;
  place = h.place;
  atoms = h.atoms;
  bounds = replicate (length h.atoms) None;
  names = h.names;
  ascribed = Some h.sealed;
  definitions = h.definitions;
  literals = literals;
  start_place = start;
  start_effect = effect;
  start = Init values;
  bodies = bodies;
}

-- the program: its atoms and own names, its literals, and `run` at a place
abbrev pub main_of : List AtomName → List OwnName → List Literal → Place → List ℕ → code.Block → List Body → Scope
main_of atoms names literals start effect block bodies = record {
  kind = kind.Program;
  name = codes "main";
  place = at 1 1;
  atoms = atoms;
  bounds = replicate (length atoms) None;
  names = names;
  ascribed = None;
  definitions = [];
  literals = object [] ∷ literals;
  start_place = start;
  start_effect = effect;
  start = Run block;
  bodies = bodies;
}

-- a program that does nothing
abbrev pub idle : Scope
idle = main_of [] [] [] (at 1 1) [] (last (code.Nothing (at 1 1))) []

abbrev pub program : List TypeDecl → List Scope → Program
program types scopes = record { declarations = primitive_types ++ types; scopes = scopes }
