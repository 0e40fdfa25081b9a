-- What V-Range is tested by: the bodies of a scope as code has them, what captures need, what a body stores into, and
-- tables by the number of a body.
use Rattle.std.specs.Prelude.{codes, ◌≡◌, ◌≢◌, ◌↔◌, ℕ, ◌+◌, ◌-◌, ◌<◌, ◌≤◌, max, Bool, true, false, List, [], ◌∷◌, ◌++◌, length, map}
use Rattle.std.specs.Prelude.{Option, Some, None, slice_get, nat_eq, if◌then◌else◌}
use Rattle.indexmap.specs.IndexMap.{get}
use Rattle.wy_text.specs.declared.limit.LimitName.TheVariants as limit
use Rattle.wy_text.specs.LimitName.{limit_number}
use Rattle.wy_text.specs.Members.{In, Apart}
use Rattle.wy_image.specs.declared.file.Argument.{Argument}
use Rattle.wy_image.specs.declared.file.Body.{Body}
use Rattle.wy_image.specs.declared.file.Capture.{Capture}
use Rattle.wy_image.specs.declared.file.Capture.TheVariants.{Slot, Value}
use Rattle.wy_image.specs.declared.file.Grant.{Grant}
use Rattle.wy_image.specs.declared.file.ImageFile.{ImageFile}
use Rattle.wy_image.specs.declared.file.Instance.{Instance}
use Rattle.wy_image.specs.declared.file.Instruction.{Instruction}
use Rattle.wy_image.specs.declared.file.Instruction.TheVariants as does
use Rattle.wy_image.specs.declared.file.Literal.{Literal}
use Rattle.wy_image.specs.declared.file.Row.{Row}
use Rattle.wy_image.specs.declared.file.Scope.{Scope}
use Rattle.wy_image.specs.declared.typing.Bounds.{Bounds}
use Rattle.wy_image.specs.declared.typing.Reference.{Reference}
use Rattle.wy_image.specs.declared.typing.Signature.{Signature}
use Rattle.wy_image.specs.declared.typing.Typing.{Typing}
use Rattle.wy_verified.specs.CodeOf.{typings_of, name_by}
use Rattle.wy_verified.specs.Kinds.{stated_in}
use Rattle.wy_verified.specs.Ranges as range
use Rattle.wy_verified.specs.Rules.{Owner}
use Rattle.wy_verify.specs.declared.ranges.needs.Need.{Need}
use Rattle.wy_verify.specs.declared.ranges.roles.Role as standing
use Rattle.wy_verify.specs.declared.ranges.tables.Tables.{Tables}

------------------------------------------------------------
-- Texts

-- a byte that names may have
abbrev pub IsPrintedByte : ℕ → Type 0
IsPrintedByte b = (32 ≤ b) × (b ≢ 127) × (b ≢ 58)

-- a text is put behind others, or is among them
abbrev pub IsPut : List (List ℕ) → List ℕ → List (List ℕ) → Bool → Type 0
IsPut old x new true = (In x old → ⊥) × (new ≡ old ++ x ∷ [])
IsPut old x new false = In x old

------------------------------------------------------------
-- The bodies of a scope

-- whose a body is, and its number
abbrev pub role_of : standing.Role → range.Role
role_of r = (r.owner, r.body)

-- the rows of a body that stands in a scope name what is there
abbrev pub RoleInRange : ImageFile → Scope → range.Role → Type 0
RoleInRange file s r =
    (b : Body) (row : Row) → slice_get file.bodies r.1 ≡ Some b → In row b.rows → range.RowInRange file s r.0 b row

------------------------------------------------------------
-- Captures

-- how many slots a captured value needs
abbrev pub slot_needed : Capture → ℕ
slot_needed (Slot i) = i + 1
slot_needed (Value i) = 0

-- .. and how many values of the current object
abbrev pub value_needed : Capture → ℕ
value_needed (Slot i) = 0
value_needed (Value i) = i + 1

-- how many slots captured values need
abbrev pub slots_needed : List Capture → ℕ
slots_needed [] = 0
slots_needed (c ∷ cs) = max (slot_needed c) (slots_needed cs)

-- .. and how many values
abbrev pub values_needed : List Capture → ℕ
values_needed [] = 0
values_needed (c ∷ cs) = max (value_needed c) (values_needed cs)

-- what captured values need
abbrev pub need_of : List Capture → Need
need_of cs = record { slots = slots_needed cs; values = values_needed cs }

-- what literals need where they are made
abbrev pub needs_of : List Literal → List Need
needs_of ls = map (λ (l : Literal). need_of l.captures) ls

------------------------------------------------------------
-- Slots that are stored into

-- the slot that an instruction stores into, or 0
abbrev pub slot_stored_by : Instruction → ℕ
slot_stored_by (does.Store i) = i
slot_stored_by _ = 0

-- the greatest slot that rows store into, or 0
abbrev pub last_stored : List Row → ℕ
last_stored [] = 0
last_stored (r ∷ rs) = max (slot_stored_by r.instruction) (last_stored rs)

-- how many `val`s a body has
abbrev pub vals_in : Body → ℕ
vals_in b = last_stored b.rows - b.parameters

------------------------------------------------------------
-- Names of bodies

-- a text, or the empty one
abbrev pub or_empty : Option (List ℕ) → List ℕ
or_empty None = []
or_empty (Some t) = t

-- the first that is there
abbrev pub or_other : Option (List ℕ) → Option (List ℕ) → Option (List ℕ)
or_other None o = o
or_other (Some t) o = Some t

-- the name of the body, if it is the one of a number
abbrev pub name_at : Bounds → ℕ → Option (List ℕ)
name_at n b = if nat_eq n.body b then Some n.name else None

-- the name that is stated
abbrev pub stated_name : Option Bounds → Option (List ℕ)
stated_name None = None
stated_name (Some n) = Some n.name

-- the name that is stated of a body first
abbrev pub first_name : ℕ → List Typing → Option (List ℕ)
first_name b [] = None
first_name b (t ∷ ts) = or_other (stated_name (stated_in b t.bodies)) (first_name b ts)

------------------------------------------------------------
-- Tables

-- the numbers of `val`s of bodies, and the names that are stated of them
pub record AreTablesOf (file : ImageFile) (t : Tables) : Type 0 where
  pub vals : t.vals.items ≡ map vals_in file.bodies
  pub names : (b : ℕ) → or_empty (get nat_eq t.names b) ≡ name_by (typings_of file) b

------------------------------------------------------------
-- What is stated

-- a slot is one of a body's `val`s, of which so many are stated
abbrev pub IsValSlot : Body → ℕ → ℕ → Type 0
IsValSlot b vals i = (b.parameters < i) × (i ≤ b.parameters + vals)

-- what is stated of a body has as many parameters as the body, which are plain, and a plain result
pub record HasItsTypes (file : ImageFile) (b : Body) (n : Bounds) : Type 0 where
  pub count : length n.parameters ≡ b.parameters
  pub parameters : range.ArePlain file n.parameters
  pub result : range.IsPlain file n.result

-- what is stated of a body fits the body, if there is one
abbrev pub BoundsFit : ImageFile → ℕ → Scope → Bounds → Type 0
BoundsFit file x s n = (b : Body) → slice_get file.bodies n.body ≡ Some b → range.BoundsInRange file x s b n

-- something is stated of each body of a scope, once, and of no other
pub record AreStatedOnce (s : Scope) (ns : List Bounds) : Type 0 where
  pub apart : Apart (map (λ (n : Bounds). n.body) ns)
  pub bodies : (b : ℕ) → In b (map (λ (n : Bounds). n.body) ns) ↔ In b (range.role_bodies (range.roles_of s))

-- the types of the values of an instance and of its literals are stated
pub record HasValues (file : ImageFile) (x : ℕ) (s : Scope) (t : Typing) : Type 0 where
  pub values : range.ValuesInRange file x s s.arguments s.fields t.values
  pub count : length t.literals ≡ length s.literals
  pub literals : (l : ℕ) (rs : List Reference) → slice_get t.literals l ≡ Some rs →
      range.LiteralStated file x s (slice_get s.literals l) rs

-- an instance has an argument for each of those that its scope has
pub record HasArguments (file : ImageFile) (x : ℕ) (s : Scope) (i : Instance) : Type 0 where
  pub count : length i.arguments ≡ s.arguments
  pub arguments : (a : Argument) → In a i.arguments → range.ArgumentInRange file x a

------------------------------------------------------------
-- The whole image

-- the limits on files, grants, instances and bodies
pub record HasFewParts (file : ImageFile) : Type 0 where
  pub files : length file.files ≤ limit_number limit.Files
  pub grants : length file.grants ≤ limit_number limit.Grants
  pub instances : length file.instances ≤ limit_number limit.Instances
  pub bodies : length file.bodies ≤ limit_number limit.Bodies

-- types, scopes and bodies are in range
pub record PartsInRange (file : ImageFile) : Type 0 where
  pub types : (t : List Signature) → In t file.types → range.TypeInRange file t
  pub scopes : (s : Scope) → In s file.scopes → range.ScopeInRange file s
  pub bodies : range.BodiesStandOnce file

-- the lists of an image are in range, but for what instances state
pub record ListsInRange (file : ImageFile) : Type 0 where
  pub limits : range.LimitsKept file
  pub grants : Apart (map (λ (g : Grant). g.name) file.grants)
  pub grant_names : (g : Grant) → In g file.grants → range.IsGrantName g.name
  pub methods : Apart file.methods
  pub parts : PartsInRange file

-- instances and the program are
pub record UnitsInRange (file : ImageFile) : Type 0 where
  pub names : Apart (codes "main" ∷ map (λ (i : Instance). i.name) file.instances)
  pub instances : (x : ℕ) (i : Instance) → slice_get file.instances x ≡ Some i → range.InstanceInRange file x i
  pub main : range.MainInRange file

------------------------------------------------------------
-- Small tests

-- a number is that of a file, which count from 1
abbrev pub IsFileNumber : ImageFile → ℕ → Type 0
IsFileNumber file n = (1 ≤ n) × (n ≤ length file.files)

-- the body and its object have what a literal needs
abbrev pub IsNeedThere : Scope → Owner → Body → Need → Type 0
IsNeedThere s o b n = (n.slots ≤ b.slots) × (n.values ≤ range.value_count s o)

-- there are so many numbers, all less than that
abbrev pub AreAllBelow : List ℕ → ℕ → Type 0
AreAllBelow ns count = (length ns ≡ count) × ((n : ℕ) → In n ns → n < count)

-- numbers are so many, and all among others, which are given
abbrev pub AreAsManyAmong : Option (List ℕ) → ℕ → List ℕ → Type 0
AreAsManyAmong None count bs = ⊥
AreAsManyAmong (Some ns) count bs = (length bs ≡ count) × ((b : ℕ) → In b bs → In b ns)

-- a scope has neither arguments nor fields
abbrev pub HasNoValues : Scope → Type 0
HasNoValues s = (s.arguments ≡ 0) × (s.fields ≡ 0)
