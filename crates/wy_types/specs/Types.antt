-- The methods of types, and replacement of atoms in types.
use Rattle.std.specs.Prelude.{ℕ, List, [], ◌∷◌, Option, Some, None, Bool as Truth, true, false, map, slice_get, nat_eq, if◌then◌else◌}
use Rattle.wy_effects.specs.EffSet.{replace}
use Rattle.wy_types.specs.declared.types.TypeRef.{TypeRef}
use Rattle.wy_types.specs.declared.types.TypeRef.TheVariants.{Int, Bool, Text, Unit as Nothing, Named, At, Own}
use Rattle.wy_types.specs.declared.types.Method.{Method}
use Rattle.wy_types.specs.declared.resolved.TypeDecl.{TypeDecl}
use Rattle.wy_types.specs.declared.resolved.ScopeKind.TheVariants.{Pure, Resource, Plain, Program as Main}
use Rattle.wy_types.specs.declared.resolved.ScopeKind.{ScopeKind}
use Rattle.wy_types.specs.Program.{Program, Scope, Body}
use Rattle.wy_types.specs.Signature.{Signature, mapped_signature}

-- object types are those that are no base types
abbrev pub IsObject : TypeRef → Type 0
IsObject Int = ⊥
IsObject Bool = ⊥
IsObject Text = ⊥
IsObject Nothing = ⊥
IsObject (Named d members) = Unit {0}
IsObject (At d bound) = Unit {0}
IsObject (Own l) = Unit {0}

-- the type with each atom replaced by its set; an own type stays
abbrev pub substituted : List (List ℕ) → TypeRef → TypeRef
substituted by Int = Int
substituted by Bool = Bool
substituted by Text = Text
substituted by Nothing = Nothing
substituted by (Named d members) = Named d (map (replace by) members)
substituted by (At d bound) = At d (replace by bound)
substituted by (Own l) = Own l

-- annotation: every declared type at the bound
abbrev pub annotated : List ℕ → TypeRef → TypeRef
annotated e Int = Int
annotated e Bool = Bool
annotated e Text = Text
annotated e Nothing = Nothing
annotated e (Named d members) = At d e
annotated e (At d bound) = At d e
annotated e (Own l) = Own l

-- erasure: every declared type bare
abbrev pub erased : TypeRef → TypeRef
erased Int = Int
erased Bool = Bool
erased Text = Text
erased Nothing = Nothing
erased (Named d members) = Named d []
erased (At d bound) = Named d []
erased (Own l) = Own l

abbrev pub signature : Method → Signature TypeRef
signature m = record { name = m.name; params = m.params; effect = m.effect; result = m.result }

-- a declaration's methods, as they are written
abbrev pub declared_methods : Option TypeDecl → List (Signature TypeRef)
declared_methods None = []
declared_methods (Some d) = map signature d.methods

-- the methods of the module (0) or of a literal, by the order of their `def` words
abbrev pub methods_of_owner : ℕ → List Body → List (Signature TypeRef)
methods_of_owner l [] = []
methods_of_owner l (b ∷ bs) = if nat_eq b.owner l then signature b.signature ∷ methods_of_owner l bs else methods_of_owner l bs

abbrev pub is_plain : ScopeKind → Truth
is_plain Pure = false
is_plain Resource = false
is_plain Plain = true
is_plain Main = false

abbrev pub scope_is_plain : Option Scope → Truth
scope_is_plain None = false
scope_is_plain (Some s) = is_plain s.kind

abbrev pub scope_bodies : Option Scope → List Body
scope_bodies None = []
scope_bodies (Some s) = s.bodies

-- the methods of a declared type: in a plain module bare and with no effect, else with the sets put in for the members
abbrev pub named_methods : Truth → List (List ℕ) → List (Signature TypeRef) → List (Signature TypeRef)
named_methods true members ms = map (mapped_signature erased (λ e. [])) ms
named_methods false members ms = map (mapped_signature (substituted members) (replace members)) ms

-- the methods of a declared type at a bound
abbrev pub bounded_methods : List ℕ → List (Signature TypeRef) → List (Signature TypeRef)
bounded_methods bound ms = map (mapped_signature (annotated bound) (λ e. bound)) ms

-- the methods of a type in a scope
abbrev pub methods_of : Program → ℕ → TypeRef → List (Signature TypeRef)
methods_of p scope Int = []
methods_of p scope Bool = []
methods_of p scope Text = []
methods_of p scope Nothing = []
methods_of p scope (Named d members) = named_methods (scope_is_plain (slice_get p.scopes scope)) members (declared_methods (slice_get p.declarations d))
methods_of p scope (At d bound) = bounded_methods bound (declared_methods (slice_get p.declarations d))
methods_of p scope (Own l) = methods_of_owner l (scope_bodies (slice_get p.scopes scope))
