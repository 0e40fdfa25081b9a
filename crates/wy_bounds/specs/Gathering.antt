-- What is gathered along a list of entries: the effects of methods, and the least atom that a method lacks.
use Rattle.std.specs.Prelude.{ℕ, ◌+◌, List, [], ◌∷◌, Option, Some, None, Bool as Truth, true, false, not, nat_lt, if◌then◌else◌}
use Rattle.wy_effects.specs.declared.atom.Atom.{Atom}
use Rattle.wy_effects.specs.EffSet.{union, without}
use Rattle.wy_effects.specs.Widened.{widened_set}
use Rattle.wy_types.specs.declared.types.TypeRef.{TypeRef}
use Rattle.wy_types.specs.Program.{Program}
use Rattle.wy_types.specs.Signature.{Signature}
use Rattle.wy_types.specs.Types.{methods_of}
use Rattle.wy_types.specs.Bounds.{bounds_of}
use Rattle.wy_bounds.specs.declared.entry.Entry.{Entry}
use Rattle.wy_bounds.specs.declared.least.Lack.{Lack}

-- an effect with the atoms that are within it over the bounds of a scope's atoms
abbrev pub wide_of : Program → ℕ → List ℕ → List ℕ
wide_of p scope = widened_set (bounds_of p scope)

abbrev pub same : Truth → Truth → Truth
same true b = b
same false b = not b

-- the methods of an entry that has the polarity; none of another
abbrev pub methods_at : Program → ℕ → Truth → Entry → List (Signature TypeRef)
methods_at p scope positive e = if same e.positive positive then methods_of p scope e.typ else []

-- the atoms with the effects of the methods
abbrev pub with_methods : List (Signature TypeRef) → List ℕ → List ℕ
with_methods [] atoms = atoms
with_methods (m ∷ ms) atoms = with_methods ms (union m.effect atoms)

abbrev pub with_entries : Program → ℕ → Truth → List Entry → List ℕ → List ℕ
with_entries p scope positive [] atoms = atoms
with_entries p scope positive (e ∷ es) atoms = with_entries p scope positive es (with_methods (methods_at p scope positive e) atoms)

-- the first atom of a list, which is the least one of a set
abbrev pub first_atom : List ℕ → Option Atom
first_atom [] = None
first_atom (a ∷ atoms) = Some (record { 0 = a })

-- what is lacking, or the atom at the place where it is less
abbrev pub lesser : Option Lack → Option Atom → ℕ → Option Lack
lesser lack None at = lack
lesser None (Some a) at = Some (record { atom = a; at = at })
lesser (Some l) (Some a) at = if nat_lt a.0 l.atom.0 then Some (record { atom = a; at = at }) else Some l

-- what is lacking, and what the methods of the entry at a place lack of the set, their effects being widened
abbrev pub lack_of_methods : (List ℕ → List ℕ) → List ℕ → ℕ → List (Signature TypeRef) → Option Lack → Option Lack
lack_of_methods wide set at [] lack = lack
lack_of_methods wide set at (m ∷ ms) lack = lack_of_methods wide set at ms (lesser lack (first_atom (without set (wide m.effect))) at)

-- and those of all entries from a place on
abbrev pub lack_of_entries : Program → ℕ → Truth → List ℕ → ℕ → List Entry → Option Lack → Option Lack
lack_of_entries p scope positive set at [] lack = lack
lack_of_entries p scope positive set at (e ∷ es) lack =
    lack_of_entries p scope positive set (at + 1) es (lack_of_methods (wide_of p scope) set at (methods_at p scope positive e) lack)
