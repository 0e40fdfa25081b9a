-- One of several sets that are to respect bounds.
use Rattle.std.specs.Prelude.{◌≡◌, ℕ, ◌<◌, List, [], Option, Some, slice_get, slice_index_or}
use Rattle.wy_effects.specs.EffSet.{replace}
use Rattle.wy_effects.specs.Bounds.{Bounds, IsUnder, IsWithin, IsLeastMissing}

-- the set of a member's number is within the sets of its bound, if it has one
abbrev pub RespectsOne : Bounds → List (List ℕ) → ℕ → Option (List ℕ) → Type 0
RespectsOne there by member o = (b : List ℕ) → o ≡ Some b → IsWithin there (slice_index_or by member []) (replace by b)

-- .. or it has one, and this is the least atom of the set that is not
abbrev pub OutsideOne : Bounds → List (List ℕ) → ℕ → Option (List ℕ) → ℕ → Type 0
OutsideOne there by member o a = (b : List ℕ) × (o ≡ Some b) × IsLeastMissing (IsUnder there) a (slice_index_or by member []) (replace by b)

-- the members before a number respect their bounds
abbrev pub RespectsBefore : Bounds → Bounds → List (List ℕ) → ℕ → Type 0
RespectsBefore bounds there by n = (j : ℕ) (c : List ℕ) → j < n → slice_get bounds j ≡ Some (Some c) → IsWithin there (slice_index_or by j []) (replace by c)
