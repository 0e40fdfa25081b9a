-- Names that stand for sets of atoms, in lists.
use Rattle.std.specs.Prelude.{ℕ, List, [], ◌∷◌, map, Option, Some, None, if◌then◌else◌}
use Rattle.wy_effects.specs.Bounds.{Bounds}
use Rattle.wy_symbols.specs.declared.scoping.Meaning.{Meaning}
use Rattle.wy_symbols.specs.Declarations.{same_name}

abbrev pub meaning_names : List Meaning → List (List ℕ)
meaning_names ms = map (λ (m : Meaning). m.name) ms

-- the first of a name
abbrev pub meaning_of : List Meaning → List ℕ → Option Meaning
meaning_of [] x = None
meaning_of (m ∷ ms) x = if same_name m.name x then Some m else meaning_of ms x

-- the names of the abstract members, in their order
abbrev pub abstract_names : List Meaning → List (List ℕ)
abstract_names [] = []
abstract_names (m ∷ ms) = if m.is_abstract then m.name ∷ abstract_names ms else abstract_names ms

-- the upper bounds of the abstract members, in their order
abbrev pub abstract_bounds : List Meaning → Bounds
abstract_bounds [] = []
abstract_bounds (m ∷ ms) = if m.is_abstract then m.bound ∷ abstract_bounds ms else abstract_bounds ms
