-- Effects as sets of small numbers.
use Rattle.std.specs.Prelude.{ℕ, ◌+◌, ◌*◌, ◌<◌, List, [], ◌∷◌}
use Rattle.wy_text.specs.Members.{In}
use Rattle.wy_lanes.specs.Numbers.{with_number}
use Rattle.wy_image.specs.declared.typing.Atom.{Atom}
use Rattle.wy_image.specs.declared.typing.Typing.{Typing}
use Rattle.wy_image.specs.declared.typing.Bounds.{Bounds}
use Rattle.wy_verified.specs.Images.{Image}

-- an atom as a number; an atom that names a member of a grant has a number of its own, below 512
abbrev pub atom_number : Atom → ℕ
atom_number a = 8 * a.grant + a.member

-- the grant and the member are small
abbrev pub IsSmall : Atom → Type 0
IsSmall a = (a.grant < 64) × (a.member < 8)

-- .. of each atom
abbrev pub AreSmall : List Atom → Type 0
AreSmall atoms = (a : Atom) → In a atoms → IsSmall a

-- the numbers of atoms, put into a set one after another
abbrev pub numbers_after : List ℕ → List Atom → List ℕ
numbers_after set [] = set
numbers_after set (a ∷ rest) = numbers_after (with_number (atom_number a) set) rest

-- the set of the numbers of atoms
abbrev pub effect_numbers : List Atom → List ℕ
effect_numbers atoms = numbers_after [] atoms

-- the image states these bounds of one of its instances
abbrev pub IsStatedIn : Image → Bounds → Type 0
IsStatedIn image n = (t : Typing) × In t image.typings × In n t.bodies
