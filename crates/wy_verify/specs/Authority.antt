-- The authority that an image states for its bodies, in the form of a report.
use Rattle.std.specs.Prelude.{codes, ◌↔◌, ℕ, ◌+◌, ◌<◌, List, [], ◌∷◌, ◌++◌, length, map, slice_index_or}
use Rattle.wy_text.specs.Members.{In}
use Rattle.wy_text.specs.declared.fault.AtomName.{AtomName}
use Rattle.wy_effects.specs.AtomTable.{atom_name}
use Rattle.wy_effects.specs.EffSet.{insert_atom}
use Rattle.wy_authority.specs.Report.{named_atoms}
use Rattle.wy_authority.specs.declared.rows.Authority.{Authority}
use Rattle.wy_authority.specs.declared.rows.BodyRow.{BodyRow}
use Rattle.wy_authority.specs.declared.rows.InstanceRow.{InstanceRow}
use Rattle.wy_image.specs.declared.file.Grant.{Grant}
use Rattle.wy_image.specs.declared.file.ImageFile.{ImageFile}
use Rattle.wy_image.specs.declared.file.Instance.{Instance}
use Rattle.wy_image.specs.declared.typing.Atom.{Atom}
use Rattle.wy_image.specs.declared.typing.Bounds.{Bounds}
use Rattle.wy_image.specs.declared.typing.Typing.{Typing}
use Rattle.wy_meaning.specs.Bounds.{Call}
use Rattle.wy_verified.specs.CodeOf.{image_of}
use Rattle.wy_verified.specs.Laws.{authority_of}
use Rattle.wy_verified.specs.Members.{members_of}

-- the atoms of a grant
abbrev pub atoms_of : Grant → List AtomName
atoms_of g = map (atom_name g.name) (members_of g.primitive)

-- the atoms of grants, in their order
abbrev pub grant_atoms : List Grant → List AtomName
grant_atoms [] = []
grant_atoms (g ∷ gs) = atoms_of g ++ grant_atoms gs

-- the number of the first atom of each grant, if the first grant's first atom has this number
abbrev pub firsts_from : ℕ → List Grant → List ℕ
firsts_from n [] = []
firsts_from n (g ∷ gs) = n ∷ firsts_from (n + length (members_of g.primitive)) gs

-- .. from 0
abbrev pub firsts_of : List Grant → List ℕ
firsts_of gs = firsts_from 0 gs

-- the number of an atom among those of all grants
abbrev pub number_of : List ℕ → Atom → ℕ
number_of firsts a = slice_index_or firsts a.grant 0 + a.member

-- the numbers of atoms are those of a set's members
abbrev pub AreNumbered : List ℕ → List Atom → Type 0
AreNumbered firsts atoms = (a : Atom) → In a atoms → number_of firsts a < 512

-- .. of each body's
abbrev pub AreBodiesNumbered : List ℕ → List Bounds → Type 0
AreBodiesNumbered firsts bs = (b : Bounds) → In b bs → AreNumbered firsts b.effect

-- .. of each instance's
abbrev pub AreInstancesNumbered : List ℕ → List Instance → Type 0
AreInstancesNumbered firsts is = (i : Instance) → In i is → AreBodiesNumbered firsts i.typing.bodies

-- a set with the numbers of atoms put into it
abbrev pub with_atoms : List ℕ → List Atom → List ℕ → List ℕ
with_atoms firsts [] set = set
with_atoms firsts (a ∷ more) set = with_atoms firsts more (insert_atom (number_of firsts a) set)

-- what is stated of a body, as a row of the report
abbrev pub body_row : List ℕ → Bounds → BodyRow
body_row firsts b = record { name = b.name; set = with_atoms firsts b.effect [] }

-- .. of an instance or the program
abbrev pub unit_row : List ℕ → List ℕ → Typing → InstanceRow
unit_row firsts name t = record { name = name; bodies = map (body_row firsts) t.bodies }

-- .. of an instance
abbrev pub instance_row : List ℕ → Instance → InstanceRow
instance_row firsts i = unit_row firsts i.name i.typing

-- what an image states of its bodies: the instances in their order, and the program last
abbrev pub image_authority : ImageFile → Authority
image_authority file = record {
  atoms = grant_atoms file.grants;
  rows = map (instance_row (firsts_of file.grants)) file.instances ++
      unit_row (firsts_of file.grants) (codes "main") file.main.typing ∷ [];
}

-- the calls of a body of a row
abbrev pub call_of : InstanceRow → BodyRow → Call
call_of r b = record { instance = r.name; body = b.name }

-- what the calls of a body may do is what its line of the report says, and no more
abbrev pub IsReported : ImageFile → Type 0
IsReported file =
    (r : InstanceRow) → In r (image_authority file).rows → (b : BodyRow) → In b r.bodies → (a : AtomName) →
    In a (authority_of (image_of file) (call_of r b)) ↔ In a (named_atoms (image_authority file).atoms b.set)
