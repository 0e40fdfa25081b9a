-- Paths through the methods of types: what they reach, and the effects on their ways. Over any types and their methods.
use Rattle.std.specs.Prelude.{◌≡◌, ℕ, List, [], ◌∷◌, Some, Bool, true, not, slice_get}
use Rattle.wy_text.specs.Members.{In}
use Rattle.wy_effects.specs.Bounds.{Inside}
use Rattle.wy_types.specs.declared.path.Part.{Part}
use Rattle.wy_types.specs.declared.path.Part.TheVariants.{Parameter, Result}
use Rattle.wy_types.specs.declared.path.Step.{Step}
use Rattle.wy_types.specs.Signature.{Signature}

-- a step through a parameter turns the polarity
abbrev pub turned : Part → Bool → Bool
turned Result b = b
turned (Parameter i) b = not b

-- a path is positive where it passes an even number of parameters
abbrev pub is_positive : List Step → Bool
is_positive [] = true
is_positive (s ∷ path) = turned s.part (is_positive path)

module _ (K : Type 0) (methods : K → List (Signature K)) where
  -- the type at a part of a method
  abbrev pub IsPartOf : Signature K → Part → K → Type 0
  IsPartOf m Result u = m.result ≡ u
  IsPartOf m (Parameter i) u = slice_get m.params i ≡ Some u

  -- one step from a type, through a method of it
  pub record Goes (t : K) (s : Step) (u : K) : Type 0 where
    pub method : Signature K
    pub has : In method (methods t)
    pub named : method.name ≡ s.method
    pub part : IsPartOf method s.part u

  -- the path goes from a type to another
  abbrev pub Walks : K → List Step → K → Type 0
  Walks t [] u = t ≡ u
  Walks t (s ∷ path) u = (v : K) × Goes t s v × Walks v path u

  -- what a type reaches by paths of a polarity
  abbrev pub Reaches : K → Bool → K → Type 0
  Reaches t positive u = (path : List Step) × Walks t path u × (is_positive path ≡ positive)

  -- the atom is in the effect of a method of what is reached so; `effects` has these atoms for the positive paths, `ho_effects` for the negative ones
  abbrev pub IsEffect : K → Bool → ℕ → Type 0
  IsEffect t positive a = (u : K) × Reaches t positive u × ((m : Signature K) × In m (methods u) × In a m.effect)

  -- the effects of what is reached so are all under the set, in an order between sets and atoms
  abbrev pub EffectsWithin : (List ℕ → ℕ → Type 0) → K → Bool → List ℕ → Type 0
  EffectsWithin Under t positive e = (a : ℕ) → IsEffect t positive a → Under e a

  -- the set is inside the effect of every method of what is reached so, in such an order; `safe` for the positive paths, `ho_safe` for the negative ones
  abbrev pub IsSafe : (List ℕ → ℕ → Type 0) → K → Bool → List ℕ → Type 0
  IsSafe Under t positive e = (u : K) → Reaches t positive u → (m : Signature K) → In m (methods u) → Inside Under e m.effect
