-- The text of a report: for each instance a line with all that it may do, and a line for each of its bodies
-- (docs/LANGUAGE.md, "Authority and report").
use Rattle.std.specs.Prelude.{codes, ℕ, List, [], ◌∷◌, ◌++◌, map, slice_index_or}
use Rattle.wy_text.specs.declared.fault.AtomName.{AtomName}
use Rattle.wy_effects.specs.AtomTable.{atom_name}
use Rattle.wy_authority.specs.declared.rows.BodyRow.{BodyRow}
use Rattle.wy_authority.specs.declared.rows.InstanceRow.{InstanceRow}
use Rattle.wy_authority.specs.declared.rows.Authority.{Authority}
use Rattle.wy_authority.specs.Authority.{whole_set}

abbrev pub atom_text : AtomName → List ℕ
atom_text atom = atom.owner ++ (codes "." ++ atom.member)

abbrev pub atoms_after : List AtomName → List ℕ
atoms_after [] = []
atoms_after (atom ∷ atoms) = codes ", " ++ (atom_text atom ++ atoms_after atoms)

-- a set: a dash where it is empty, else its atoms with commas between
abbrev pub set_text : List AtomName → List ℕ
set_text [] = codes "-"
set_text (atom ∷ atoms) = atom_text atom ++ atoms_after atoms

-- the names of a set's atoms
abbrev pub named_atoms : List AtomName → List ℕ → List AtomName
named_atoms atoms set = map (λ a. slice_index_or atoms a (atom_name [] [])) set

-- a line of the report: a name behind a beginning, and a set
abbrev pub row_text : List AtomName → List ℕ → List ℕ → List ℕ → List ℕ
row_text atoms before name set = (before ++ (name ++ codes ": ")) ++ (set_text (named_atoms atoms set) ++ codes "\n")

abbrev pub body_lines : List AtomName → List BodyRow → List ℕ
body_lines atoms [] = []
body_lines atoms (b ∷ bs) = codes "  " ++ (b.name ++ (codes ": " ++ (set_text (named_atoms atoms b.set) ++ (codes "\n" ++ body_lines atoms bs))))

abbrev pub instance_lines : List AtomName → List InstanceRow → List ℕ
instance_lines atoms [] = []
instance_lines atoms (r ∷ rs) =
    codes "authority of " ++ (r.name ++ (codes ": " ++ (set_text (named_atoms atoms (whole_set r.bodies)) ++ (codes "\n" ++ (body_lines atoms r.bodies ++ instance_lines atoms rs)))))

-- the lines of one instance
abbrev pub instance_text : List AtomName → InstanceRow → List ℕ
instance_text atoms r = codes "authority of " ++ (r.name ++ (codes ": " ++ (set_text (named_atoms atoms (whole_set r.bodies)) ++ (codes "\n" ++ body_lines atoms r.bodies))))

abbrev pub report_text : Authority → List ℕ
report_text a = instance_lines a.atoms a.rows
