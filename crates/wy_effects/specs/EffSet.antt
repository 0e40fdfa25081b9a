-- Effect sets: finite sets of atoms, each as the one ascending list of its atoms.
use Rattle.std.specs.Prelude.{ℕ, ◌+◌, ◌<◌, ◌≤◌, Bool, false, List, [], ◌∷◌, nat_lt, nat_eq, ◌||◌, if◌then◌else◌, slice_index_or}
use Rattle.wy_text.specs.Members.{In}

-- atoms from k on and below n, in ascending order
abbrev pub IsSetFrom : ℕ → ℕ → List ℕ → Type 0
IsSetFrom k n [] = Unit {0}
IsSetFrom k n (x ∷ xs) = (k ≤ x) × (x < n) × IsSetFrom (x + 1) n xs

-- a set of atoms below n
abbrev pub IsSet : ℕ → List ℕ → Type 0
IsSet n xs = IsSetFrom 0 n xs

-- each list is a set
abbrev pub AreSets : ℕ → List (List ℕ) → Type 0
AreSets n sets = (s : List ℕ) → In s sets → IsSet n s

-- whether the atom is in the set
abbrev pub has : ℕ → List ℕ → Bool
has a [] = false
has a (x ∷ xs) = nat_eq x a || has a xs

-- the set with one more atom
abbrev pub insert_atom : ℕ → List ℕ → List ℕ
insert_atom a [] = a ∷ []
insert_atom a (x ∷ xs) = if nat_lt x a then x ∷ insert_atom a xs else (if nat_eq x a then x ∷ xs else a ∷ x ∷ xs)

-- the atoms of either set
abbrev pub union : List ℕ → List ℕ → List ℕ
union [] ys = ys
union (x ∷ xs) ys = insert_atom x (union xs ys)

-- the atoms of the first set that are not in the second
abbrev pub without : List ℕ → List ℕ → List ℕ
without [] ys = []
without (x ∷ xs) ys = if has x ys then without xs ys else x ∷ without xs ys

-- each atom replaced by its set: the atoms of all those sets
abbrev pub replace : List (List ℕ) → List ℕ → List ℕ
replace by [] = []
replace by (a ∷ atoms) = union (slice_index_or by a []) (replace by atoms)
