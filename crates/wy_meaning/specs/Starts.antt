-- The instances of a program in the order in which they start, and what they and `main` are handed.
-- (docs/LANGUAGE.md, "Starting a program")
use Rattle.std.specs.Prelude.{codes, ℕ, ◌+◌, List, [], ◌∷◌, ◌++◌, Option, Some, None, slice_get, bytes_eq, if◌then◌else◌}
use Rattle.wy_device.specs.Editions.{Edition, current, primitive_numbered}
use Rattle.wy_device.specs.declared.primitive.Primitive.{Primitive}
use Rattle.wy_types.specs.declared.types.TypeRef.{TypeRef}
use Rattle.wy_types.specs.declared.types.TypeRef.TheVariants.{Int, Bool, Text, Unit as Nothing, Named, At, Own}
use Rattle.wy_types.specs.declared.linked.Actual.{Actual}
use Rattle.wy_types.specs.declared.linked.Actual.TheVariants as actual
use Rattle.wy_types.specs.declared.linked.Instance.{Instance}
use Rattle.wy_types.specs.declared.resolved.Literal.{Literal}
use Rattle.wy_types.specs.declared.resolved.OwnName.{OwnName}
use Rattle.wy_types.specs.declared.resolved.Origin.{Origin}
use Rattle.wy_types.specs.declared.resolved.Origin.TheVariants as origin
use Rattle.wy_types.specs.Program.{Program, Scope}

-- an instance: its name, its module among the scopes, and for each own name of the module the grant or the
-- instance that it stands for
pub record Started : Type 0 where
  pub name : List ℕ
  pub scope : ℕ
  pub actuals : List Actual

-- the edition of the language that the program runs in, the instances in start order, and then `main`, which is the
-- program itself
pub record Starts : Type 0 where
  pub edition : Edition
  pub instances : List Started
  pub main : Started

abbrev pub all_started : Starts → List Started
all_started s = s.instances ++ s.main ∷ []

------------------------------------------------------------
-- What the own names of a scope stand for

-- the number of the instance of a name
abbrev pub numbered_from : ℕ → List ℕ → List Started → ℕ
numbered_from x name [] = x
numbered_from x name (s ∷ ss) = if bytes_eq s.name name then x else numbered_from (x + 1) name ss

-- an own name of the program: the grant of its number; the instance of a line, by its name; the instance of a used
-- module, which is named `pure` and the module
abbrev pub main_actual : List Started → ℕ → List ℕ → Origin → Actual
main_actual started k name (origin.Parameter bare) = actual.Grant k
main_actual started k name origin.Grant = actual.Grant k
main_actual started k name (origin.Use m) = actual.Instance (numbered_from 0 (codes "pure " ++ name) started)
main_actual started k name (origin.Instance m arguments) = actual.Instance (numbered_from 0 name started)
main_actual started k name (origin.Import m arguments bound) = actual.Instance (numbered_from 0 name started)

abbrev pub main_actuals : List Started → ℕ → List OwnName → List Actual
main_actuals started k [] = []
main_actuals started k (n ∷ ns) = main_actual started k n.name n.origin ∷ main_actuals started (k + 1) ns

abbrev pub scope_names : Option Scope → List OwnName
scope_names None = []
scope_names (Some s) = s.names

abbrev pub last_scope : List Scope → ℕ
last_scope [] = 0
last_scope (s ∷ []) = 0
last_scope (s ∷ t ∷ rest) = last_scope (t ∷ rest) + 1

-- a program's instances with `main` after them
abbrev pub starts_of : Program → List Started → Starts
starts_of p started = record {
  edition = current;
  instances = started;
  main = record {
    name = codes "main";
    scope = last_scope p.scopes;
    actuals = main_actuals started 0 (scope_names (slice_get p.scopes (last_scope p.scopes)));
  };
}

-- an instance of a start list that has ground sets too
abbrev pub started_of : Instance → Started
started_of i = record { name = i.name; scope = i.scope; actuals = i.arguments }

------------------------------------------------------------
-- Looking up

abbrev pub actual_in : Option Started → ℕ → Option Actual
actual_in None k = None
actual_in (Some s) k = slice_get s.actuals k

-- what own name k of an instance stands for
abbrev pub actual_of : Starts → ℕ → ℕ → Option Actual
actual_of s x k = actual_in (slice_get (all_started s) x) k

abbrev pub scope_started : Program → Option Started → Option Scope
scope_started p None = None
scope_started p (Some s) = slice_get p.scopes s.scope

-- the scope of an instance
abbrev pub scope_of_instance : Program → Starts → ℕ → Option Scope
scope_of_instance p s x = scope_started p (slice_get (all_started s) x)

abbrev pub literal_in : Option Scope → ℕ → Option Literal
literal_in None l = None
literal_in (Some s) l = slice_get s.literals l

-- a grant's name and primitive type
pub record GrantIs : Type 0 where
  pub name : List ℕ
  pub primitive : Primitive

-- the primitive type that a type is: those have the first numbers among the declared ones
abbrev pub primitive_of_type : Edition → TypeRef → Option Primitive
primitive_of_type edition (Named d members) = primitive_numbered edition d
primitive_of_type edition Int = None
primitive_of_type edition Bool = None
primitive_of_type edition Text = None
primitive_of_type edition Nothing = None
primitive_of_type edition (At d bound) = None
primitive_of_type edition (Own l) = None

abbrev pub grant_of_primitive : List ℕ → Option Primitive → Option GrantIs
grant_of_primitive name None = None
grant_of_primitive name (Some primitive) = Some (record { name = name; primitive = primitive })

abbrev pub grant_from : Edition → Origin → OwnName → Option GrantIs
grant_from edition origin.Grant n = grant_of_primitive n.name (primitive_of_type edition n.typ)
grant_from edition (origin.Parameter bare) n = None
grant_from edition (origin.Use m) n = None
grant_from edition (origin.Instance m arguments) n = None
grant_from edition (origin.Import m arguments bound) n = None

abbrev pub grant_named : Edition → Option OwnName → Option GrantIs
grant_named edition None = None
grant_named edition (Some n) = grant_from edition n.origin n

-- the grant of a number: grants are the first own names of the program
abbrev pub grant_of : Edition → Program → ℕ → Option GrantIs
grant_of edition p g = grant_named edition (slice_get (scope_names (slice_get p.scopes (last_scope p.scopes))) g)
