-- The pairs of types that subtyping asks about, and the steps from one to another.
use Rattle.std.specs.Prelude.{ℕ, List}
use Rattle.wy_effects.specs.Bounds.{IsWithin}
use Rattle.wy_types.specs.declared.types.TypeRef.{TypeRef}
use Rattle.wy_types.specs.declared.path.Step.{Step}
use Rattle.wy_types.specs.Program.{Program}
use Rattle.wy_types.specs.Types.{IsObject, methods_of}
use Rattle.wy_types.specs.Subtyping.{IsStep, AnyEffect}
use Rattle.wy_types.specs.Bounds.{bounds_of}
use Rattle.wy_subtype.specs.declared.verdict.Mode.{Mode}
use Rattle.wy_subtype.specs.declared.verdict.Mode.TheVariants.{Annotated, Plain}

-- what is asked: whether the first is a subtype of the second
abbrev pub Pair : Type 0
Pair = TypeRef × TypeRef

-- annotated subtyping wants the left effect within the right one, over the upper bounds of the scope's atoms; plain subtyping looks at neither
abbrev pub Allows : Program → ℕ → Mode → List ℕ → List ℕ → Type 0
Allows p scope Annotated e f = IsWithin (bounds_of p scope) e f
Allows p scope Plain e f = AnyEffect e f

-- one step from a pair to another
abbrev pub StepsTo : Program → ℕ → Mode → Pair → Step → Pair → Type 0
StepsTo p scope mode q s r = IsStep TypeRef (methods_of p scope) IsObject (Allows p scope mode) q s r
