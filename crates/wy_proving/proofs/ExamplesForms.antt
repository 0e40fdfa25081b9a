-- Short forms of programs and of what a certificate says of them, for the worked examples.
use Rattle.std.specs.Prelude.{codes, ℕ, List, [], ◌∷◌, ◌++◌, None, Some}
use Rattle.wy_text.specs.declared.fault.Place.{Place}
use Rattle.wy_types.specs.declared.types.TypeRef.{TypeRef}
use Rattle.wy_types.specs.declared.types.Method.{Method}
use Rattle.wy_types.specs.declared.resolved.TypeDecl.{TypeDecl}
use Rattle.wy_types.specs.declared.resolved.Literal.{Literal}
use Rattle.wy_types.specs.declared.resolved.ScopeKind.TheVariants as kind
use Rattle.wy_types.specs.Code as code
use Rattle.wy_types.specs.Primitive.{primitive_types}
use Rattle.wy_types.specs.Program.{Program, Scope, Body, Init, Run}
use Rattle.wy_cert.specs.declared.certificate.Rule.{Rule}
use Rattle.wy_cert.specs.declared.certificate.CertPair.{CertPair}
use Rattle.wy_cert.specs.declared.certificate.CertNode.{CertNode}

abbrev pub at : ℕ → ℕ → Place
at line column = record { file = 0; line = line; column = column }

-- the module or a literal, with no field
abbrev pub object : Literal
object = record { captures = []; fields = [] }

-- a method with neither parameters nor effects
abbrev pub method : List ℕ → TypeRef → Method
method name result = record { name = name; params = []; effect = []; result = result }

-- .. and a type that has it alone
abbrev pub type_with : List ℕ → Method → TypeDecl
type_with name m = record { name = name; members = []; bounds = []; defined = []; methods = m ∷ [] }

abbrev pub body : ℕ → Place → Method → code.Expr → Body
body owner place m x = record { owner = owner; place = place; signature = m; block = code.Last (code.Plain x) }

-- a plain module without parameters and fields: its name, the type that it is sealed at, its literals, its own place, and all methods
abbrev pub plain_module : List ℕ → ℕ → List Literal → Place → List Body → Scope
plain_module name sealed literals place bodies = record {
  kind = kind.Plain;
  name = name;
  place = place;
  atoms = [];
  bounds = [];
  names = [];
  ascribed = Some sealed;
  definitions = [];
  literals = object ∷ literals;
  start_place = place;
  start_effect = [];
  start = Init code.none;
  bodies = bodies;
}

-- the program: its literals, the place of `run`, its block, and the literals' methods
abbrev pub main_of : List Literal → Place → code.Block → List Body → Scope
main_of literals start block bodies = record {
  kind = kind.Program;
  name = codes "main";
  place = at 1 1;
  atoms = [];
  bounds = [];
  names = [];
  ascribed = None;
  definitions = [];
  literals = object ∷ literals;
  start_place = start;
  start_effect = [];
  start = Run block;
  bodies = bodies;
}

abbrev pub program : List TypeDecl → List Scope → Program
program types scopes = record { declarations = primitive_types ++ types; scopes = scopes }

-- a node with no effect
abbrev pub node : Rule → ℕ → ℕ → ℕ → ℕ → CertNode
node rule line column parts typ = record { rule = rule; file = 0; line = line; column = column; parts = parts; typ = typ; effect = [] }

abbrev pub pair : ℕ → ℕ → CertPair
pair left right = record { left = left; right = right }
