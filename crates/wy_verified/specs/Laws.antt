-- What a verified image is known for.
use Rattle.std.specs.Prelude.{ℕ, List, [], ◌∷◌, ◌++◌, Option, Some, None, slice_get, bytes_eq, if◌then◌else◌}
use Rattle.wy_text.specs.declared.fault.AtomName.{AtomName}
use Rattle.wy_device.specs.Tapes.{Tapes}
use Rattle.wy_code.specs.declared.code.Grant.{Grant}
use Rattle.wy_code.specs.declared.code.Instance.{Instance}
use Rattle.wy_code.specs.Machine.{all_instances}
use Rattle.wy_code.specs.Running.{machine, NeverStuck}
use Rattle.wy_image.specs.declared.typing.Atom.{Atom}
use Rattle.wy_image.specs.declared.typing.Bounds.{Bounds}
use Rattle.wy_image.specs.declared.typing.Typing.{Typing}
use Rattle.wy_verified.specs.Images.{Image}
use Rattle.wy_verified.specs.Members.{members_of}
use Rattle.wy_meaning.specs.Bounds.{Call, Bounded}
use Rattle.wy_code.specs.declared.code.Body.{Body}
use Rattle.wy_verified.specs.Rules.{Owner, IsVerified, IsVerifiedBy, at_first}
use Rattle.wy_verified.specs.Walking.{VerifyRule}
use Rattle.wy_verified.specs.Passing.{BodyPasses, FailsFrom}
use Rattle.wy_verified.specs.Stating.{BodyStates}

-- an atom of a grant by the name of the member
abbrev pub member_called : List ℕ → Option (List ℕ) → List AtomName
member_called grant None = []
member_called grant (Some member) = record { owner = grant; member = member } ∷ []

-- .. by its number
abbrev pub atom_in : Option Grant → ℕ → List AtomName
atom_in None m = []
atom_in (Some g) m = member_called g.name (slice_get (members_of g.primitive) m)

-- atoms by their names
abbrev pub atoms_named : List Grant → List Atom → List AtomName
atoms_named grants [] = []
atoms_named grants (a ∷ more) = atom_in (slice_get grants a.grant) a.member ++ atoms_named grants more

-- what is stated of the bodies of a name
abbrev pub of_bodies : List Grant → List ℕ → List Bounds → List AtomName
of_bodies grants body [] = []
of_bodies grants body (b ∷ more) =
    (if bytes_eq b.name body then atoms_named grants b.effect else []) ++ of_bodies grants body more

-- .. in the instances of a name, the program last
abbrev pub of_instances : List Grant → Call → List Instance → List Typing → List AtomName
of_instances grants call (i ∷ is) (t ∷ ts) =
    (if bytes_eq i.name call.instance then of_bodies grants call.body t.bodies else []) ++
    of_instances grants call is ts
of_instances grants call [] ts = []
of_instances grants call (i ∷ is) [] = []

-- the authority that the image states for a body, by its name and that of its instance
abbrev pub authority_of : Image → Call → List AtomName
authority_of image call = of_instances image.code.grants call (all_instances image.code) image.typings

-- the code of a verified image is never stuck
abbrev pub NeverStuckIfVerified : Image → Type 0
NeverStuckIfVerified image = IsVerified image → NeverStuck image.code

-- in no run of a verified image does a body do more than the image states of it
abbrev pub BoundedIfVerified : Image → Type 0
BoundedIfVerified image =
    IsVerified image → (n k : ℕ) (tapes : Tapes) → Bounded (authority_of image) (machine image.code n k tapes).events

------------------------------------------------------------
-- Typed images, walks and the rules

-- what lowering gives passes the walk
abbrev pub TypedImagePasses : Image → Type 0
TypedImagePasses image = IsVerifiedBy BodyStates image → IsVerifiedBy BodyPasses image

-- what passes the walk follows the rules on which the two laws above rest
abbrev pub PassingImageIsVerified : Image → Type 0
PassingImageIsVerified image = IsVerifiedBy BodyPasses image → IsVerified image

-- a body in which a first failure is found does not pass
abbrev pub FailingBodyDoesNotPass : Image → Type 0
FailingBodyDoesNotPass image =
    (x : ℕ) (owner : Owner) (body : Body) (bounds : Bounds) (held : ℕ) (rule : VerifyRule) (place : ℕ) →
    FailsFrom image x owner body bounds held 0 (Some at_first) [] body.instructions rule place →
    BodyPasses image x owner body bounds held → ⊥
