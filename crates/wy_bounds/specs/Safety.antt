-- What the test of safety answers: yes, or a path to a method whose effect lacks an atom of the set.
use Rattle.std.specs.Prelude.{◌≡◌, ℕ, ◌≤◌, List, Bool as Truth}
use Rattle.wy_text.specs.Members.{In}
use Rattle.wy_effects.specs.Bounds.{IsUnder}
use Rattle.wy_types.specs.declared.types.TypeRef.{TypeRef}
use Rattle.wy_types.specs.declared.path.Step.{Step}
use Rattle.wy_types.specs.Program.{Program}
use Rattle.wy_types.specs.Signature.{Signature}
use Rattle.wy_types.specs.Types.{methods_of}
use Rattle.wy_types.specs.Paths.{is_positive, Walks, Reaches, IsSafe}
use Rattle.wy_types.specs.Bounds.{bounds_of}
use Rattle.wy_bounds.specs.declared.safety.Safety.{Safety}
use Rattle.wy_bounds.specs.declared.safety.Safety.TheVariants.{Yes, No}

-- the type has a method whose effect the atom isn't within
abbrev pub Lacks : Program → ℕ → TypeRef → ℕ → Type 0
Lacks p scope u a = (m : Signature TypeRef) × In m (methods_of p scope u) × (IsUnder (bounds_of p scope) m.effect a → ⊥)

-- the set has the atom, and it isn't within a method of what the type reaches by paths of the polarity
abbrev pub IsMissing : Program → ℕ → TypeRef → Truth → List ℕ → ℕ → Type 0
IsMissing p scope t positive e a = In a e × ((u : TypeRef) × Reaches TypeRef (methods_of p scope) t positive u × Lacks p scope u a)

-- the path has the polarity and leads to a type that has a method which lacks the atom, one of the set; no missing atom is less
pub record Refutes (p : Program) (scope : ℕ) (t : TypeRef) (positive : Truth) (e : List ℕ) (path : List Step) (a : ℕ) : Type 0 where
  pub among : In a e
  pub at : TypeRef
  pub walks : Walks TypeRef (methods_of p scope) t path at
  pub polarity : is_positive path ≡ positive
  pub lacks : Lacks p scope at a
  pub least : (b : ℕ) → IsMissing p scope t positive e b → a ≤ b

-- what is answered of a type and a set, for the paths of a polarity
abbrev pub IsAnswer : Program → ℕ → TypeRef → Truth → List ℕ → Safety → Type 0
IsAnswer p scope t positive e Yes = IsSafe TypeRef (methods_of p scope) (IsUnder (bounds_of p scope)) t positive e
IsAnswer p scope t positive e (No path atom) = Refutes p scope t positive e path atom.0

abbrev pub IsYes : Safety → Type 0
IsYes Yes = Unit {0}
IsYes (No path atom) = ⊥
