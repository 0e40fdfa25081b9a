-- Words to write programs with. Declared types, effects, and places that no run looks at are left out.
use Rattle.std.proofs.Common.{ℕ, ℤ, Bool, false, List, [], ◌∷◌, Option, None, map}
use Rattle.wy_text.specs.declared.fault.Place.{Place}
use Rattle.wy_types.specs.declared.types.TypeRef.{TypeRef}
use Rattle.wy_types.specs.declared.types.TypeRef.TheVariants.{Named, Unit as UnitType}
use Rattle.wy_types.specs.declared.code.Variable.{Variable}
use Rattle.wy_types.specs.declared.code.Variable.TheVariants.{Parameter, Local}
use Rattle.wy_types.specs.declared.code.Binding.TheVariants as to
use Rattle.wy_types.specs.declared.resolved.Literal.{Literal}
use Rattle.wy_types.specs.declared.resolved.Field.{Field}
use Rattle.wy_types.specs.declared.resolved.OwnName.{OwnName}
use Rattle.wy_types.specs.declared.resolved.Origin.{Origin}
use Rattle.wy_types.specs.declared.resolved.Origin.TheVariants as origin
use Rattle.wy_types.specs.declared.resolved.ScopeKind.TheVariants as scope
use Rattle.wy_types.specs.declared.linked.Actual.{Actual}
use Rattle.wy_types.specs.declared.linked.Actual.TheVariants as actual
use Rattle.wy_types.specs.Code.{Expr, Number, Quoted, Truth, Nothing, This, Name, Call, Plain, Values, none, more, Block, Last, Then, Val}
use Rattle.wy_types.specs.Primitive.{primitive_types}
use Rattle.wy_types.specs.Program.{Program, Scope, Body, Init, Run}
use Rattle.wy_device.specs.Tapes.{Tapes}
use Rattle.wy_device.specs.declared.operation.Answer.{Answer}
use Rattle.wy_device.specs.declared.operation.Op.{Op}
use Rattle.wy_device.specs.declared.deed.Event.{Event}
use Rattle.wy_device.specs.declared.deed.Event.TheVariants as event
use Rattle.wy_meaning.specs.Starts.{Started}

------------------------------------------------------------
-- Places and expressions

abbrev pub at : ℕ → ℕ → Place
at line column = record { file = 1; line = line; column = column }

-- a place that the row does not speak of
abbrev pub somewhere : Place
somewhere = at 1 1

abbrev pub number : ℤ → Expr
number n = Number somewhere n

abbrev pub quoted : List ℕ → Expr
quoted bytes = Quoted somewhere bytes

abbrev pub truth : Bool → Expr
truth b = Truth somewhere b

abbrev pub nothing : Expr
nothing = Nothing somewhere

abbrev pub this : Expr
this = This somewhere

abbrev pub own : ℕ → Expr
own k = Name somewhere (to.Own k)

abbrev pub field : ℕ → Expr
field i = Name somewhere (to.Field i)

-- parameter i of the scope's body k
abbrev pub parameter : ℕ → ℕ → Expr
parameter k i = Name somewhere (to.Variable (Parameter k i))

abbrev pub local : ℕ → Expr
local n = Name somewhere (to.Variable (Local n))

abbrev pub values : List Expr → Values
values [] = none
values (e ∷ es) = more (Plain e) (values es)

abbrev pub call_at : Place → Expr → List ℕ → List Expr → Expr
call_at place e method es = Call place e method (values es)

abbrev pub call : Expr → List ℕ → List Expr → Expr
call e method es = call_at somewhere e method es

------------------------------------------------------------
-- Blocks, methods, scopes

abbrev pub last : Expr → Block
last e = Last (Plain e)

-- a statement that is no `val`, and the rest
abbrev pub then : Expr → Block → Block
then e rest = Then (Plain e) rest

-- the `val` of this number
abbrev pub val : ℕ → Expr → Block → Block
val n e rest = Val somewhere n None (Plain e) rest

-- a method of the module (0) or of a literal, with as many parameters
abbrev pub method : ℕ → List ℕ → List ℕ → Block → Body
method owner name parameters block = record {
  owner = owner;
  place = somewhere;
  signature = record { name = name; params = map (λ _. UnitType) parameters; effect = []; result = UnitType };
  block = block;
}

abbrev pub one : List ℕ
one = 0 ∷ []

abbrev pub two : List ℕ
two = 0 ∷ 0 ∷ []

abbrev pub named_field : List ℕ → Field
named_field name = record { name = name; place = somewhere; mutable = false; typ = UnitType }

-- a literal that captures these variables and has these fields
abbrev pub literal : List Variable → List (List ℕ) → Literal
literal captures fields = record { captures = captures; fields = map named_field fields }

abbrev pub own_name : List ℕ → TypeRef → Origin → OwnName
own_name name typ origin = record { name = name; place = somewhere; typ = typ; origin = origin }

-- a grant of a primitive type, by the type's number
abbrev pub grant : List ℕ → ℕ → OwnName
grant name primitive = own_name name (Named primitive []) origin.Grant

abbrev pub formal : List ℕ → OwnName
formal name = own_name name UnitType (origin.Parameter false)

abbrev pub used : List ℕ → ℕ → OwnName
used name m = own_name name UnitType (origin.Use m)

abbrev pub line : List ℕ → ℕ → List ℕ → OwnName
line name m arguments = own_name name UnitType (origin.Instance m arguments)

abbrev pub imported : List ℕ → ℕ → List ℕ → OwnName
imported name m arguments = own_name name UnitType (origin.Import m arguments [])

-- a module with own names, literals (the first is its own), initialisers and methods
abbrev pub unit : List ℕ → List OwnName → List Literal → Values → List Body → Scope
unit name names literals values bodies = record {
  kind = scope.Resource;
  name = name;
  place = somewhere;
  atoms = [];
  bounds = [];
  names = names;
  ascribed = None;
  definitions = [];
  literals = literals;
  start_place = somewhere;
  start_effect = [];
  start = Init values;
  bodies = bodies;
}

abbrev pub main : List OwnName → List Literal → Block → List Body → Scope
main names literals block bodies = record {
  kind = scope.Program;
  name = [];
  place = somewhere;
  atoms = [];
  bounds = [];
  names = names;
  ascribed = None;
  definitions = [];
  literals = literals;
  start_place = somewhere;
  start_effect = [];
  start = Run block;
  bodies = bodies;
}

-- a literal with no captures and no fields
abbrev pub bare : Literal
bare = literal [] []

abbrev pub program : List Scope → Program
program scopes = record { declarations = primitive_types; scopes = scopes }

abbrev pub started : List ℕ → ℕ → List Actual → Started
started name scope actuals = record { name = name; scope = scope; actuals = actuals }

abbrev pub handed_grant : ℕ → Actual
handed_grant g = actual.Grant g

abbrev pub handed_instance : ℕ → Actual
handed_instance x = actual.Instance x

------------------------------------------------------------
-- Tapes and events

abbrev pub no_tapes : Tapes
no_tapes = record { console = []; folder = []; clock = []; random = [] }

abbrev pub console_tape : List (Option Answer) → Tapes
console_tape tape = record no_tapes { console = tape }

abbrev pub folder_tape : List (Option Answer) → Tapes
folder_tape tape = record no_tapes { folder = tape }

abbrev pub entered : List ℕ → List ℕ → Event
entered instance body = event.Enter instance body

abbrev pub did : List ℕ → Op → Option Answer → Event
did grant op answer = event.Deed (record { grant = grant; op = op; answer = answer })

abbrev pub left : Event
left = event.Leave
