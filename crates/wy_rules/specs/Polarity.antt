-- How effects and safety of a type come to one subtyping with its annotation, on either side.
use Rattle.std.specs.Prelude.{ℕ, List, ◌↔◌, true, false}
use Rattle.wy_effects.specs.Bounds.{IsUnder}
use Rattle.wy_types.specs.declared.types.TypeRef.{TypeRef}
use Rattle.wy_types.specs.Program.{Program}
use Rattle.wy_types.specs.Fitting.{FitsType}
use Rattle.wy_types.specs.Types.{annotated, erased, methods_of}
use Rattle.wy_types.specs.Paths.{EffectsWithin, IsSafe}
use Rattle.wy_types.specs.Bounds.{bounds_of}
use Rattle.wy_types.specs.Core.{IsCore}
use Rattle.wy_types.specs.Subtyping.{IsAnnotatedSubtype}

-- for each type that can be written, in every kind of scope: its effects are within the set and the set is higher-order safe for it, together, exactly where it is a subtype of its erasure annotated at the set
abbrev pub Annotation : Type 0
Annotation =
    (p : Program) → IsCore p → (scope : ℕ) (e : List ℕ) (t : TypeRef) → FitsType p 512 0 t →
    (EffectsWithin TypeRef (methods_of p scope) (IsUnder (bounds_of p scope)) t true e × IsSafe TypeRef (methods_of p scope) (IsUnder (bounds_of p scope)) t false e) ↔ IsAnnotatedSubtype p scope t (annotated e (erased t))

-- the set is safe for it and has its higher-order effects within it, together, exactly where the erasure annotated at the set is a subtype of it
abbrev pub DualAnnotation : Type 0
DualAnnotation =
    (p : Program) → IsCore p → (scope : ℕ) (e : List ℕ) (t : TypeRef) → FitsType p 512 0 t →
    (IsSafe TypeRef (methods_of p scope) (IsUnder (bounds_of p scope)) t true e × EffectsWithin TypeRef (methods_of p scope) (IsUnder (bounds_of p scope)) t false e) ↔ IsAnnotatedSubtype p scope (annotated e (erased t)) t
