-- The types that a scope reaches.
use Rattle.std.specs.Prelude.{◌≡◌, ℕ, ◌-◌, ◌<◌, ◌≤◌, List, [], ◌∷◌, ◌++◌, ◌↔◌, Option, Some, None, Result, Ok, Err, map, length, slice_get}
use Rattle.std.specs.List.{range_with_len}
use Rattle.wy_text.specs.declared.limit.LimitName.TheVariants.{ReachedTypes}
use Rattle.wy_text.specs.Members.{In, Apart}
use Rattle.wy_types.specs.declared.types.TypeRef.{TypeRef}
use Rattle.wy_types.specs.declared.types.TypeRef.TheVariants.{Named, Own}
use Rattle.wy_types.specs.declared.path.Step.{Step}
use Rattle.wy_types.specs.declared.resolved.ScopeKind.{ScopeKind}
use Rattle.wy_types.specs.declared.resolved.ScopeKind.TheVariants.{Pure, Resource, Plain, Program as Main}
use Rattle.wy_types.specs.declared.resolved.OwnName.{OwnName}
use Rattle.wy_types.specs.declared.resolved.Literal.{Literal}
use Rattle.wy_types.specs.declared.resolved.Field.{Field}
use Rattle.wy_types.specs.declared.reach.ReachRefusal.{ReachRefusal}
use Rattle.wy_types.specs.declared.reach.ReachRefusal.TheVariants.{Limit, Memory}
use Rattle.wy_types.specs.Program.{Program, Scope, Start, Init, Run, Body}
use Rattle.wy_types.specs.Types.{IsObject, methods_of}
use Rattle.wy_types.specs.Paths.{Walks}
use Rattle.wy_types.specs.Written.{values_types, block_types}

-- the type that a module is sealed at
abbrev pub sealed_types : Option ℕ → List (List ℕ) → List TypeRef
sealed_types None definitions = []
sealed_types (Some d) definitions = Named d definitions ∷ []

-- the own types of the module (0) and of its literals; the program has no module
abbrev pub own_types : ScopeKind → ℕ → List TypeRef
own_types Pure n = map (λ l. Own l) (range_with_len 0 n)
own_types Resource n = map (λ l. Own l) (range_with_len 0 n)
own_types Plain n = map (λ l. Own l) (range_with_len 0 n)
own_types Main n = map (λ l. Own l) (range_with_len 1 (n - 1))

abbrev pub field_types : List Literal → List TypeRef
field_types [] = []
field_types (l ∷ ls) = map (λ (f : Field). f.typ) l.fields ++ field_types ls

abbrev pub start_types : Start → List TypeRef
start_types (Init values) = values_types values
start_types (Run block) = block_types block

abbrev pub body_types : List Body → List TypeRef
body_types [] = []
body_types (b ∷ bs) = block_types b.block ++ body_types bs

-- where reaching begins: the types of the scope's own names and of its ascription, its own types, and all types written in its fields and bodies
abbrev pub first_types : Scope → List TypeRef
first_types s =
    map (λ (n : OwnName). n.typ) s.names ++ sealed_types s.ascribed s.definitions ++ own_types s.kind (length s.literals) ++
    field_types s.literals ++ start_types s.start ++ body_types s.bodies

abbrev pub scope_first_types : Option Scope → List TypeRef
scope_first_types None = []
scope_first_types (Some s) = first_types s

-- a type is reached where a path leads to it from one of those
abbrev pub IsReached : Program → ℕ → TypeRef → Type 0
IsReached p scope u =
    (t : TypeRef) × In t (scope_first_types (slice_get p.scopes scope)) × ((path : List Step) × Walks TypeRef (methods_of p scope) t path u)

-- the object types that the scope reaches, each once; they are within the limit. The refusal comes where more are reached
abbrev pub Reach : Program → ℕ → Result (List TypeRef) ReachRefusal → Type 0
Reach p scope (Ok ts) = Apart ts × (length ts ≤ 1024) × ((u : TypeRef) → In u ts ↔ (IsObject u × IsReached p scope u))
Reach p scope (Err (Limit limit)) =
    (limit ≡ ReachedTypes) × ((us : List TypeRef) × Apart us × (1024 < length us) × ((u : TypeRef) → In u us → IsObject u × IsReached p scope u))
Reach p scope (Err Memory) = Unit {0}
