-- The atoms that are within a set over bounds that name earlier atoms, as a set that is made from the first bound to the last.
use Rattle.std.specs.Prelude.{ℕ, ◌+◌, List, [], ◌∷◌, Option, Some, None, Bool, true, ◌&&◌, if◌then◌else◌}
use Rattle.wy_effects.specs.EffSet.{has, insert_atom}
use Rattle.wy_effects.specs.Bounds.{Bounds}

abbrev pub includes : List ℕ → List ℕ → Bool
includes [] f = true
includes (a ∷ e) f = has a f && includes e f

-- with an atom, where its bound is in the set
abbrev pub with_bounded : ℕ → Option (List ℕ) → List ℕ → List ℕ
with_bounded a None f = f
with_bounded a (Some b) f = if includes b f then insert_atom a f else f

-- by the bounds of the atoms from a number on: an atom comes in whose bound is in the set as it is so far
abbrev pub widened_from : ℕ → Bounds → List ℕ → List ℕ
widened_from n [] f = f
widened_from n (o ∷ bounds) f = widened_from (n + 1) bounds (with_bounded n o f)

abbrev pub widened_set : Bounds → List ℕ → List ℕ
widened_set bounds f = widened_from 0 bounds f
