-- A body where it is judged, and what the walk through it notes of jumps.
use Rattle.std.specs.Prelude.{◌≡◌, ℕ, ◌<◌, Bool, false, List, length, Option, Some, None, slice_get, slice_index_or}
use Rattle.wy_code.specs.declared.code.Body.{Body}
use Rattle.wy_code.specs.declared.code.Scope.{Scope}
use Rattle.wy_code.specs.declared.instruction.Instruction.{Instruction}
use Rattle.wy_code.specs.declared.instruction.Placed.{Placed}
use Rattle.wy_code.specs.Machine.{all_instances, scope_in}
use Rattle.wy_image.specs.declared.typing.Atom.{Atom}
use Rattle.wy_image.specs.declared.typing.Bounds.{Bounds}
use Rattle.wy_image.specs.declared.typing.Reference.{Reference}
use Rattle.wy_image.specs.declared.typing.Reference.TheVariants as written
use Rattle.wy_image.specs.declared.typing.Target.{Target}
use Rattle.wy_image.specs.declared.typing.Typing.{Typing}
use Rattle.wy_verified.specs.Images.{Image}
use Rattle.wy_verified.specs.Kinds.{values_by}
use Rattle.wy_text.specs.Members.{In}
use Rattle.wy_verified.specs.Passing.{set_at}
use Rattle.wy_verified.specs.declared.known.Jumped.{Jumped}
use Rattle.wy_verified.specs.Rules.{Owner}
use Rattle.wy_verified.specs.declared.known.Known.{Known}
use Rattle.wy_verified.specs.Visiting.{Tests}
use Rattle.wy_verified.specs.Walking.{target_in, is_in, RangeOk}
use Rattle.wy_verified.specs.declared.known.VerifyRule.{VerifyRule}

-- a body of an instance, with what is stated of it
pub record Site : Type 0 where
  pub image : Image
  pub x : ℕ
  pub owner : Owner
  pub body : Body
  pub bounds : Bounds
  pub held : ℕ

-- a rule holds at an instruction
abbrev pub IsTested : Site → VerifyRule → ℕ → Option Known → Known → List Jumped → Instruction → Type 0
IsTested s rule at o known js i = Tests s.image s.x s.owner s.body s.bounds s.held rule at o known js i

------------------------------------------------------------
-- Numbers of four bytes

-- the number after a literal's has four bytes
abbrev pub IsShort : Reference → Type 0
IsShort (written.Literal l) = l < 4294967295
IsShort r = Unit {0}

-- .. of each that is written
abbrev pub AreShort : List Reference → Type 0
AreShort rs = (k : ℕ) (r : Reference) → slice_get rs k ≡ Some r → IsShort r

------------------------------------------------------------
-- Tables by address

-- the target of a number
abbrev pub target_of : List Target → Option ℕ → Option Target
target_of ts None = None
target_of ts (Some n) = slice_get ts n

-- at each address the number of its first target
abbrev pub AreFirst : List (Option ℕ) → List Target → Type 0
AreFirst numbers ts = (to : ℕ) → to < length numbers → target_of ts (slice_index_or numbers to None) ≡ target_in to ts

-- at each address the set fields of the latest jump that led there
abbrev pub AreNoted : List (Option ℕ) → List Jumped → Type 0
AreNoted sets js = (to : ℕ) → slice_index_or sets to None ≡ set_at to js

-- a jump led to an address
abbrev pub IsNoted : List (Option ℕ) → ℕ → Type 0
IsNoted sets to = (n : ℕ) × (slice_index_or sets to None ≡ Some n)

-- the target of a number has an address
abbrev pub IsAddressAt : List Target → ℕ → ℕ → Type 0
IsAddressAt ts number address = (t : Target) × (slice_get ts number ≡ Some t) × (t.address ≡ address)

-- a number has a mark exactly where it is in a list
abbrev pub AreMarked : List ℕ → List Bool → Type 0
AreMarked list marks = (k : ℕ) → is_in k list ≡ slice_index_or marks k false

------------------------------------------------------------
-- What is true of a site

-- the instruction stands at a place
abbrev pub IsAt : List Placed → ℕ → Instruction → Type 0
IsAt ps at i = (p : Placed) × (slice_get ps at ≡ Some p) × (p.instruction ≡ i)

-- the instance's scope and what it states, the table of the targets, and numbers that name what is there
pub record IsSited (image : Image) (x : ℕ) (owner : Owner) (body : Body) (bounds : Bounds) (held : ℕ)
    (typing : Typing) (scope : Scope) (numbers : List (Option ℕ)) (effect : List Atom) : Type 0 where
  pub effect_is : effect ≡ bounds.effect
  pub typing_is : slice_get image.typings x ≡ Some typing
  pub scope_is : scope_in image.code (slice_get (all_instances image.code) x) ≡ Some scope
  pub first : AreFirst numbers bounds.targets
  pub long : length numbers ≡ length body.instructions
  pub parameters : AreShort bounds.parameters
  pub vals : AreShort bounds.vals
  pub result : IsShort bounds.result
  pub targets : (t : Target) → In t bounds.targets → AreShort t.operands
  pub values : (l : ℕ) → AreShort (values_by (Some typing) l)
  pub rows : (at : ℕ) (p : Placed) → slice_get body.instructions at ≡ Some p →
      RangeOk image x owner body bounds held p.instruction
