-- Judging an authority by a policy: a plain program.
use Rattle.std.specs.Prelude.{◌&&◌, ◌||◌, ℕ, Bool, cond, List, [], ◌∷◌, Option, Some, None, slice_index_or}
use Rattle.std.specs.Str.{bytes_eq}
use Rattle.indexmap.specs.IndexSet.{contains}
use Rattle.wy_text.specs.declared.fault.AtomName.{AtomName}
use Rattle.wy_effects.specs.AtomTable.{atom_name}
use Rattle.wy_authority.specs.Authority.{whole_set}
use Rattle.wy_authority.specs.declared.rows.InstanceRow.{InstanceRow}
use Rattle.wy_policy.specs.Allowed.{allows, line_of, row_for}
use Rattle.wy_policy.specs.declared.policy.Judgement.{Judgement}
use Rattle.wy_policy.specs.declared.policy.Judgement.TheVariants as judgement
use Rattle.wy_policy.specs.declared.policy.PolicyRow.{PolicyRow}
use Rattle.wy_policy.specs.declared.ruling.Granted.{Granted}

-- ---- what a row allows, in tables

abbrev pub same_atom : AtomName → AtomName → Bool
same_atom a b = bytes_eq a.owner b.owner && bytes_eq a.member b.member

-- whether tables have an atom: its grant among those that are allowed with every member, or its name
abbrev pub grants : Granted → AtomName → Bool
grants g atom = contains bytes_eq g.wholes atom.owner || contains same_atom g.atoms atom

-- ---- judging

-- the atom that stands for a number that has no name
abbrev pub nameless : AtomName
nameless = atom_name [] []

-- whether the atom of a number is allowed
abbrev pub is_allowed : List AtomName → Option PolicyRow → ℕ → Bool
is_allowed atoms row number = allows row (slice_index_or atoms number nameless)

-- the first of these numbers whose atom is not allowed
abbrev pub first_denied : List AtomName → Option PolicyRow → List ℕ → Option ℕ
first_denied atoms row [] = None
first_denied atoms row (n ∷ ns) = cond (is_allowed atoms row n) (first_denied atoms row ns) (Some n)

abbrev pub judgement_of : List AtomName → Option PolicyRow → List ℕ → Option ℕ → Judgement
judgement_of atoms row name None = judgement.Allowed
judgement_of atoms row name (Some n) = judgement.Denied (line_of row) name (slice_index_or atoms n nameless)

abbrev pub instance_judged : List AtomName → Option PolicyRow → InstanceRow → Judgement
instance_judged atoms row i = judgement_of atoms row i.name (first_denied atoms row (whole_set i.bodies))

-- the first denial
abbrev pub before : Judgement → Judgement → Judgement
before judgement.Allowed later = later
before (judgement.Denied line name atom) later = judgement.Denied line name atom

abbrev pub judged : List PolicyRow → List AtomName → List InstanceRow → Judgement
judged rows atoms [] = judgement.Allowed
judged rows atoms (i ∷ is) = before (instance_judged atoms (row_for rows i.name) i) (judged rows atoms is)
