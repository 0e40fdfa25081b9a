-- The text of what was used of each instance in a run. (docs/LANGUAGE.md, "Observation")
use Rattle.std.specs.Prelude.{codes, ℕ, List, [], ◌∷◌, ◌++◌, map}
use Rattle.wy_text.specs.declared.fault.AtomName.{AtomName}
use Rattle.wy_device.specs.declared.deed.Event.{Event}
use Rattle.wy_authority.specs.Report.{named_atoms, set_text}
use Rattle.wy_authority.specs.declared.rows.Authority.{Authority}
use Rattle.wy_authority.specs.declared.rows.InstanceRow.{InstanceRow}
use Rattle.wy_meaning.specs.Used.{used_set}

-- the line of one instance, of which these atoms were used
abbrev pub used_line : List ℕ → List AtomName → List ℕ
used_line name atoms = codes "used of " ++ (name ++ (codes ": " ++ (set_text atoms ++ codes "\n")))

-- the lines of these instances, of each of which such a set was used
abbrev pub used_lines : List AtomName → List InstanceRow → List (List ℕ) → List ℕ
used_lines atoms [] sets = []
used_lines atoms (r ∷ rs) [] = []
used_lines atoms (r ∷ rs) (set ∷ sets) = used_line r.name (named_atoms atoms set) ++ used_lines atoms rs sets

-- the text of these sets, one for each row of the report: numbers of its atoms
abbrev pub used_text : Authority → List (List ℕ) → List ℕ
used_text a sets = used_lines a.atoms a.rows sets

-- the set of each row of a report: what was used of its instance in these events
abbrev pub used_sets : Authority → List Event → List (List ℕ)
used_sets a events = map (λ r. used_set a.atoms events r.name) a.rows
