-- Keys: lists of numbers that stand for types, so that a table finds by them what it has.
use Rattle.std.specs.Prelude.{ℕ, ◌+◌, List, [], ◌∷◌, ◌++◌, Bool as Truth, if◌then◌else◌}
use Rattle.wy_types.specs.declared.types.TypeRef.{TypeRef}
use Rattle.wy_types.specs.declared.types.TypeRef.TheVariants.{Int, Bool, Text, Unit as Nothing, Named, At, Own}

-- a set: each atom by the number after its own, and then 0
abbrev pub set_key : List ℕ → List ℕ
set_key [] = 0 ∷ []
set_key (a ∷ s) = (a + 1) ∷ set_key s

-- sets: 1 before each, and then 0
abbrev pub sets_key : List (List ℕ) → List ℕ
sets_key [] = 0 ∷ []
sets_key (s ∷ ss) = (1 ∷ set_key s) ++ sets_key ss

-- a type: a number for its kind, and then what it holds
abbrev pub type_key : TypeRef → List ℕ
type_key Int = 0 ∷ []
type_key Bool = 1 ∷ []
type_key Text = 2 ∷ []
type_key Nothing = 3 ∷ []
type_key (Named d members) = 4 ∷ d ∷ sets_key members
type_key (At d bound) = 5 ∷ d ∷ set_key bound
type_key (Own l) = 6 ∷ l ∷ []

-- two types in their order
abbrev pub pair_key : TypeRef → TypeRef → List ℕ
pair_key s t = type_key s ++ type_key t

-- a type with a mark
abbrev pub mark_key : TypeRef → Truth → List ℕ
mark_key t mark = (if mark then 1 else 0) ∷ type_key t
