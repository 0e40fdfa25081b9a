-- Upper bounds of a scope's atoms, and when an effect set is within another over them.
use Rattle.std.specs.Prelude.{◌≡◌, ℕ, ◌<◌, ◌≤◌, ◌↔◌, List, [], Option, Some, length, slice_get, slice_index_or}
use Rattle.wy_text.specs.Members.{In}
use Rattle.wy_effects.specs.EffSet.{IsSet, replace}

-- for each atom, by its number: none, or the set that bounds it
abbrev pub Bounds : Type 0
Bounds = List (Option (List ℕ))

-- the atom is in the set, or has a bound that is within it
pub data IsUnder (bounds : Bounds) (f : List ℕ) : ℕ → Type 0 where
  by_member : (a : ℕ) → In a f → IsUnder bounds f a
  by_bound : (a : ℕ) (b : List ℕ) → slice_get bounds a ≡ Some (Some b) → ((c : ℕ) → In c b → IsUnder bounds f c) → IsUnder bounds f a

-- each atom of the first set is under the second, in an order between sets and atoms
abbrev pub Inside : (List ℕ → ℕ → Type 0) → List ℕ → List ℕ → Type 0
Inside Under e f = (a : ℕ) → In a e → Under f a

-- a set is within another where each of its atoms is in that one or has a bound that is within it
abbrev pub IsWithin : Bounds → List ℕ → List ℕ → Type 0
IsWithin bounds e f = Inside (IsUnder bounds) e f

-- the sets that stand for the atoms respect the bounds of the atoms: each is within the sets of its atom's bound, over the bounds there
abbrev pub Respects : Bounds → Bounds → List (List ℕ) → Type 0
Respects bounds there by = (a : ℕ) (b : List ℕ) → slice_get bounds a ≡ Some (Some b) → IsWithin there (slice_index_or by a []) (replace by b)

-- bounds name earlier atoms only
abbrev pub GoDown : Bounds → Type 0
GoDown bounds = (a : ℕ) (b : List ℕ) → slice_get bounds a ≡ Some (Some b) → (c : ℕ) → In c b → c < a

-- as many bounds as there are atoms, each a set of atoms before its own
abbrev pub BoundsFit : ℕ → Bounds → Type 0
BoundsFit n bounds = (length bounds ≡ n) × ((a : ℕ) (b : List ℕ) → slice_get bounds a ≡ Some (Some b) → IsSet a b)

-- no atom has a bound
abbrev pub AreNone : Bounds → Type 0
AreNone bounds = (a : ℕ) (b : List ℕ) → slice_get bounds a ≡ Some (Some b) → ⊥

-- the atoms that are under a set, as a set of their own
abbrev pub IsWidened : Bounds → List ℕ → List ℕ → Type 0
IsWidened bounds f wide = (a : ℕ) → In a wide ↔ IsUnder bounds f a

-- the order that looks at no bound
abbrev pub IsOneOf : List ℕ → ℕ → Type 0
IsOneOf f a = In a f

-- of the atoms of which something holds, the one with the least number that is not under the set, in such an order
abbrev pub IsLeastOutside : (List ℕ → ℕ → Type 0) → (ℕ → Type 0) → ℕ → List ℕ → Type 0
IsLeastOutside Under Holds a f = Holds a × (Under f a → ⊥) × ((b : ℕ) → Holds b → (Under f b → ⊥) → a ≤ b)

-- .. of the atoms of a set
abbrev pub IsLeastMissing : (List ℕ → ℕ → Type 0) → ℕ → List ℕ → List ℕ → Type 0
IsLeastMissing Under a e f = IsLeastOutside Under (λ b. In b e) a f
