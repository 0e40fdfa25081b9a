-- The upper bounds of a scope's atoms, and those of the abstract members of a type.
use Rattle.std.specs.Prelude.{ℕ, List, [], Option, Some, None, slice_get}
use Rattle.wy_effects.specs.Bounds.{Bounds}
use Rattle.wy_types.specs.declared.types.TypeRef.{TypeRef}
use Rattle.wy_types.specs.declared.types.TypeRef.TheVariants.{Int, Bool, Text, Unit as Nothing, Named, At, Own}
use Rattle.wy_types.specs.declared.resolved.TypeDecl.{TypeDecl}
use Rattle.wy_types.specs.Program.{Program, Scope}

abbrev pub scope_bounds : Option Scope → Bounds
scope_bounds None = []
scope_bounds (Some s) = s.bounds

-- of the atoms of the scope of a number
abbrev pub bounds_of : Program → ℕ → Bounds
bounds_of p scope = scope_bounds (slice_get p.scopes scope)

abbrev pub declaration_bounds : Option TypeDecl → Bounds
declaration_bounds None = []
declaration_bounds (Some d) = d.bounds

-- of the abstract members of a declared type, by its number
abbrev pub declared_bounds : Program → ℕ → Bounds
declared_bounds p d = declaration_bounds (slice_get p.declarations d)

abbrev pub type_bounds : Program → TypeRef → Bounds
type_bounds p Int = []
type_bounds p Bool = []
type_bounds p Text = []
type_bounds p Nothing = []
type_bounds p (Named d sets) = declared_bounds p d
type_bounds p (At d bound) = declared_bounds p d
type_bounds p (Own l) = []
