-- Tables of a type's paths: what is reached, and the effects of its methods by the polarity of the paths.
use Rattle.std.specs.Prelude.{◌≡◌, ◌↔◌, ℕ, List, [], ◌∷◌, ◌++◌, Bool as Truth, true, false}
use Rattle.wy_text.specs.Members.{In}
use Rattle.wy_effects.specs.EffSet.{union}
use Rattle.wy_effects.specs.Bounds.{GoDown}
use Rattle.wy_types.specs.declared.types.TypeRef.{TypeRef}
use Rattle.wy_types.specs.Program.{Program}
use Rattle.wy_types.specs.Signature.{Signature}
use Rattle.wy_types.specs.Types.{methods_of}
use Rattle.wy_types.specs.Bounds.{bounds_of}
use Rattle.wy_types.specs.Paths.{Reaches, IsEffect}
use Rattle.wy_bounds.specs.declared.entry.Entry.{Entry}
use Rattle.wy_bounds.specs.declared.matrix.Side.{Side}
use Rattle.wy_bounds.specs.declared.matrix.Matrix.{Matrix}
use Rattle.wy_bounds.specs.Gathering.{wide_of, methods_at}
use Rattle.wy_bounds.specs.Worklist.{IsWhole}

abbrev pub no_effects : Side
no_effects = record { atoms = []; rows = [] }

-- one more effect: its atoms, and as a row what it is widened to
abbrev pub with_effect : (List ℕ → List ℕ) → List ℕ → Side → Side
with_effect wide effect side = record { atoms = union effect side.atoms; rows = side.rows ++ wide effect ∷ [] }

-- the effects of the methods, one after another
abbrev pub with_effects : (List ℕ → List ℕ) → List (Signature TypeRef) → Side → Side
with_effects wide [] side = side
with_effects wide (m ∷ ms) side = with_effects wide ms (with_effect wide m.effect side)

-- those of the entries that have the polarity
abbrev pub side_of : Program → ℕ → Truth → List Entry → Side → Side
side_of p scope positive [] side = side
side_of p scope positive (e ∷ es) side = side_of p scope positive es (with_effects (wide_of p scope) (methods_at p scope positive e) side)

-- the set is the widened effect of a method of what the type reaches by paths of the polarity
abbrev pub IsReachedEffect : Program → ℕ → TypeRef → Truth → List ℕ → Type 0
IsReachedEffect p scope t positive row =
    (u : TypeRef) × Reaches TypeRef (methods_of p scope) t positive u × ((m : Signature TypeRef) × In m (methods_of p scope u) × (wide_of p scope m.effect ≡ row))

-- the atoms are those of the effects, and the rows are exactly these
pub record IsSide (p : Program) (scope : ℕ) (t : TypeRef) (positive : Truth) (side : Side) : Type 0 where
  pub atoms : (a : ℕ) → In a side.atoms ↔ IsEffect TypeRef (methods_of p scope) t positive a
  pub rows : (row : List ℕ) → In row side.rows ↔ IsReachedEffect p scope t positive row

-- the table has all that the type reaches, and each side its effects; the bounds of the scope's atoms name earlier ones
pub record IsMatrix (p : Program) (scope : ℕ) (t : TypeRef) (m : Matrix) : Type 0 where
  pub down : GoDown (bounds_of p scope)
  pub whole : IsWhole p scope t m.table
  pub positive_is : IsSide p scope t true m.positive
  pub negative_is : IsSide p scope t false m.negative
