-- What is decided of every core, with no table that may want memory: subtyping of its types, and its scopes.
use Rattle.std.specs.Prelude.{◌≡◌, ℕ, ◌⊎◌, Some, slice_get}
use Rattle.wy_types.specs.declared.types.TypeRef.{TypeRef}
use Rattle.wy_types.specs.Program.{Program, Scope}
use Rattle.wy_types.specs.Core.{IsCore}
use Rattle.wy_types.specs.Fitting.{IsTypeOf}
use Rattle.wy_subtype.specs.declared.verdict.Mode.{Mode}
use Rattle.wy_subtype.specs.Verdict.{IsSubtypeIn}
use Rattle.wy_judge.specs.Accepting.{IsScopeDecided}

-- of two types in range of a scope, in either mode, the first is a subtype of the second or it is not
abbrev pub SubtypingIsDecided : Type 0
SubtypingIsDecided =
    (p : Program) → IsCore p → (k : ℕ) (mode : Mode) (s t : TypeRef) → IsTypeOf p k s → IsTypeOf p k t →
    IsSubtypeIn p k mode s t ⊎ (IsSubtypeIn p k mode s t → ⊥)

-- each scope passes or has a fault
abbrev pub ScopesAreDecided : Type 0
ScopesAreDecided = (p : Program) → IsCore p → (k : ℕ) (s : Scope) → slice_get p.scopes k ≡ Some s → IsScopeDecided p k s
