-- The methods of types with no regard to effects, and plain subtyping over them.
use Rattle.std.specs.Prelude.{ℕ, List, [], map, slice_get}
use Rattle.wy_types.specs.declared.types.TypeRef.{TypeRef}
use Rattle.wy_types.specs.declared.types.TypeRef.TheVariants.{Int, Bool, Text, Unit as Nothing, Named, At, Own}
use Rattle.wy_types.specs.Program.{Program}
use Rattle.wy_types.specs.Signature.{Signature, mapped_signature}
use Rattle.wy_types.specs.Types.{IsObject, erased, declared_methods, methods_of_owner, scope_bodies}
use Rattle.wy_types.specs.Subtyping.{IsSubtype, AnyEffect}

abbrev pub Methods : Type 0
Methods = TypeRef → List (Signature TypeRef)

abbrev pub IsPlainSubtypeOver : Methods → TypeRef → TypeRef → Type 0
IsPlainSubtypeOver methods s t = IsSubtype TypeRef methods IsObject AnyEffect s t

-- the methods of a scope's types with no regard to effects: every declared type bare, every effect empty
abbrev pub erased_methods : Program → ℕ → Methods
erased_methods p scope Int = []
erased_methods p scope Bool = []
erased_methods p scope Text = []
erased_methods p scope Nothing = []
erased_methods p scope (Named d members) = map (mapped_signature erased (λ e. [])) (declared_methods (slice_get p.declarations d))
erased_methods p scope (At d bound) = map (mapped_signature erased (λ e. [])) (declared_methods (slice_get p.declarations d))
erased_methods p scope (Own l) = map (mapped_signature erased (λ e. [])) (methods_of_owner l (scope_bodies (slice_get p.scopes scope)))
