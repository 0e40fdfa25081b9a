-- Tables of atoms: names, each once, in the order of insertion. An atom is the number of its name.
use Rattle.std.specs.Prelude.{◌≡◌, ℕ, ◌<◌, ◌≤◌, List, [], ◌∷◌, ◌++◌, ◌⊎◌, length, slice_get, Some, Result, Ok, Err}
use Rattle.wy_text.specs.declared.fault.AtomName.{AtomName}
use Rattle.wy_text.specs.declared.limit.LimitName.TheVariants.{Atoms}
use Rattle.wy_text.specs.Members.{In}
use Rattle.wy_effects.specs.declared.atom.Atom.{Atom}
use Rattle.wy_effects.specs.declared.atom.TableRefusal.{TableRefusal}
use Rattle.wy_effects.specs.declared.atom.TableRefusal.TheVariants.{Limit, Memory}

-- the name of an owner and a member
abbrev pub atom_name : List ℕ → List ℕ → AtomName
atom_name owner member = record { owner = owner; member = member }

-- how a name is put in: its number where it is there, else it is added last. A full table takes
-- no new name, and a refused call leaves the table as it was
abbrev pub Inserts : List AtomName → AtomName → List AtomName → Result Atom TableRefusal → Type 0
Inserts old name new (Ok atom) =
    (slice_get new atom.0 ≡ Some name) × ((new ≡ old) ⊎ ((In name old → ⊥) × (new ≡ old ++ name ∷ []) × (length old < 512)))
Inserts old name new (Err (Limit limit)) = (limit ≡ Atoms) × (new ≡ old) × (In name old → ⊥) × (512 ≤ length old)
Inserts old name new (Err Memory) = new ≡ old
