-- The laws of the order on effect sets over bounds.
use Rattle.std.specs.Prelude.{◌≡◌, ℕ, ◌↔◌, List, [], ◌∷◌, map}
use Rattle.wy_text.specs.Members.{Within}
use Rattle.wy_effects.specs.EffSet.{AreSets, replace, union}
use Rattle.wy_effects.specs.Bounds.{Bounds, IsUnder, IsWithin, Respects, GoDown, AreNone, IsWidened, IsOneOf, IsLeastMissing}

-- what includes a set has it within
abbrev pub SameWithin : Type 0
SameWithin = (bounds : Bounds) (e f : List ℕ) → Within e f → IsWithin bounds e f

-- a set within a set within a third is within the third
abbrev pub OnwardWithin : Type 0
OnwardWithin = (bounds : Bounds) (e f g : List ℕ) → IsWithin bounds e f → IsWithin bounds f g → IsWithin bounds e g

abbrev pub UnionsWithin : Type 0
UnionsWithin = (bounds : Bounds) (e f g h : List ℕ) → IsWithin bounds e g → IsWithin bounds f h → IsWithin bounds (union e f) (union g h)

-- a set of one atom is within another where the atom is under it
abbrev pub OneWithin : Type 0
OneWithin = (bounds : Bounds) (f : List ℕ) (a : ℕ) → IsWithin bounds (a ∷ []) f ↔ IsUnder bounds f a

-- where no atom has a bound, within is inclusion
abbrev pub UnboundedWithin : Type 0
UnboundedWithin = (bounds : Bounds) → AreNone bounds → (e f : List ℕ) → IsWithin bounds e f → Within e f

-- the order is kept when atoms are replaced by sets that respect the bounds
abbrev pub ReplacedWithin : Type 0
ReplacedWithin = (bounds there : Bounds) (by : List (List ℕ)) → Respects bounds there by → (e f : List ℕ) → IsWithin bounds e f → IsWithin there (replace by e) (replace by f)

-- sets that respect bounds, with their atoms replaced by sets that respect the bounds there
abbrev pub RespectsOnward : Type 0
RespectsOnward =
    (bounds there beyond : Bounds) (by onward : List (List ℕ)) (n : ℕ) → AreSets n onward → Respects bounds there by → Respects there beyond onward →
    Respects bounds beyond (map (replace onward) by)

-- a set is within another where the widened one includes it
abbrev pub WidenedExactly : Type 0
WidenedExactly = (bounds : Bounds) (e f wide : List ℕ) → IsWidened bounds f wide → IsWithin bounds e f ↔ Within e wide

-- the least atom that is not under a set is the least one that the widened set lacks
abbrev pub MissingExactly : Type 0
MissingExactly =
    (bounds : Bounds) (e f wide : List ℕ) (a : ℕ) → IsWidened bounds f wide →
    IsLeastMissing (IsUnder bounds) a e f ↔ IsLeastMissing IsOneOf a e wide

-- where bounds name earlier atoms: of two sets that are within each other the least atoms that are not under a third are one
abbrev pub OneMissing : Type 0
OneMissing =
    (bounds : Bounds) → GoDown bounds → (e f g : List ℕ) (a b : ℕ) → IsWithin bounds e f → IsWithin bounds f e →
    IsLeastMissing (IsUnder bounds) a e g → IsLeastMissing (IsUnder bounds) b f g → a ≡ b
