-- The laws of subtyping and of annotation.
use Rattle.std.specs.Prelude.{ℕ, List, ◌↔◌, true, false}
use Rattle.wy_effects.specs.Bounds.{IsUnder}
use Rattle.wy_types.specs.declared.types.TypeRef.{TypeRef}
use Rattle.wy_types.specs.Program.{Program}
use Rattle.wy_types.specs.Bounds.{bounds_of}
use Rattle.wy_types.specs.Fitting.{FitsType, IsTypeOf}
use Rattle.wy_types.specs.Types.{annotated, methods_of}
use Rattle.wy_types.specs.Paths.{EffectsWithin, IsSafe}
use Rattle.wy_types.specs.Core.{IsCore}
use Rattle.wy_types.specs.Subtyping.{IsAnnotatedSubtype, IsPlainSubtype}

-- each type in range is a subtype of itself
abbrev pub IsReflexive : Type 0
IsReflexive = (p : Program) → IsCore p → (scope : ℕ) (t : TypeRef) → IsTypeOf p scope t → IsAnnotatedSubtype p scope t t × IsPlainSubtype p scope t t

-- a subtype of a subtype is a subtype
abbrev pub IsTransitive : Type 0
IsTransitive =
    (p : Program) (scope : ℕ) (a b c : TypeRef) →
    (IsAnnotatedSubtype p scope a b → IsAnnotatedSubtype p scope b c → IsAnnotatedSubtype p scope a c) ×
    (IsPlainSubtype p scope a b → IsPlainSubtype p scope b c → IsPlainSubtype p scope a c)

-- for a type that can be written: its effects are within a bound that is higher-order safe for it exactly where it is a subtype of itself at the bound
abbrev pub AnnotationHolds : Type 0
AnnotationHolds =
    (p : Program) → IsCore p → (scope : ℕ) (e : List ℕ) (t : TypeRef) → FitsType p 512 0 t →
    (EffectsWithin TypeRef (methods_of p scope) (IsUnder (bounds_of p scope)) t true e × IsSafe TypeRef (methods_of p scope) (IsUnder (bounds_of p scope)) t false e) ↔ IsAnnotatedSubtype p scope t (annotated e t)
