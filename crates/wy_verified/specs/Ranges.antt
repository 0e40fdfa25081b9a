-- V-Range: each number and each length names what is there, and names are what names may be.
use Rattle.std.specs.Prelude.{codes, ◌≡◌, ◌≢◌, ◌↔◌, ℕ, zero, suc, ◌+◌, ◌<◌, ◌≤◌, true, false}
use Rattle.std.specs.Prelude.{List, [], ◌∷◌, ◌++◌, length, map, drop, Option, Some, None, slice_get}
use Rattle.wy_text.specs.declared.limit.LimitName.TheVariants as limit
use Rattle.wy_text.specs.LimitName.{limit_number}
use Rattle.wy_text.specs.Members.{In, Apart}
use Rattle.wy_layout.specs.Names.{is_name}
use Rattle.wy_layout.specs.Words.{among, reserved, most_name_bytes}
use Rattle.wy_device.specs.Traps.{text_limit}
use Rattle.wy_code.specs.declared.code.Literal as code_literal
use Rattle.wy_code.specs.declared.code.Method.{Method}
use Rattle.wy_image.specs.declared.file.Argument.{Argument}
use Rattle.wy_image.specs.declared.file.Argument.TheVariants as handed
use Rattle.wy_image.specs.declared.file.Body.{Body}
use Rattle.wy_image.specs.declared.file.Capture.{Capture}
use Rattle.wy_image.specs.declared.file.Capture.TheVariants.{Slot, Value}
use Rattle.wy_image.specs.declared.file.Constant.{Constant}
use Rattle.wy_image.specs.declared.file.Constant.TheVariants as raw
use Rattle.wy_image.specs.declared.file.Entry.{Entry}
use Rattle.wy_image.specs.declared.file.Grant.{Grant}
use Rattle.wy_image.specs.declared.file.ImageFile.{ImageFile}
use Rattle.wy_image.specs.declared.file.Instance.{Instance}
use Rattle.wy_image.specs.declared.file.Instruction.{Instruction}
use Rattle.wy_image.specs.declared.file.Instruction.TheVariants as does
use Rattle.wy_image.specs.declared.file.Literal.{Literal}
use Rattle.wy_image.specs.declared.file.Row.{Row}
use Rattle.wy_image.specs.declared.file.Scope.{Scope}
use Rattle.wy_image.specs.declared.typing.Atom.{Atom}
use Rattle.wy_image.specs.declared.typing.Bounds.{Bounds}
use Rattle.wy_image.specs.declared.typing.Reference.{Reference}
use Rattle.wy_image.specs.declared.typing.Reference.TheVariants as written
use Rattle.wy_image.specs.declared.typing.Signature.{Signature}
use Rattle.wy_image.specs.declared.typing.Target.{Target}
use Rattle.wy_image.specs.declared.typing.Typing.{Typing}
use Rattle.wy_verified.specs.CodeOf.{literals_of, name_by, typings_of, texts_of, vals_of, placed_of}
use Rattle.wy_verified.specs.Members.{members_of}
use Rattle.wy_verified.specs.Rules.{Owner}

------------------------------------------------------------
-- The bodies of a scope, each with whose it is: the first one, and the methods of the module (0) and of its literals

-- whose a body is, and its number
abbrev pub Role : Type 0
Role = Owner × ℕ

-- the methods of a literal
abbrev pub entry_roles : ℕ → List Method → List Role
entry_roles l [] = []
entry_roles l (m ∷ ms) = (Some l, m.body) ∷ entry_roles l ms

-- .. of literals, the first of which has this number
abbrev pub literal_roles : ℕ → List code_literal.Literal → List Role
literal_roles l [] = []
literal_roles l (x ∷ xs) = entry_roles l x.methods ++ literal_roles (suc l) xs

-- the bodies of a scope: the first one, and the methods
abbrev pub roles_of : Scope → List Role
roles_of s = (None, s.first) ∷ literal_roles 0 (literals_of s)

-- their numbers
abbrev pub role_bodies : List Role → List ℕ
role_bodies rs = map (λ (r : Role). r.1) rs

-- the numbers of the bodies of scopes
abbrev pub scopes_bodies : List Scope → List ℕ
scopes_bodies [] = []
scopes_bodies (s ∷ ss) = role_bodies (roles_of s) ++ scopes_bodies ss

-- how many values an object has: what it is handed or captures, and its fields
abbrev pub literal_values : Option Literal → ℕ
literal_values None = 0
literal_values (Some l) = length l.captures + l.fields

-- the number of values of the object whose body it is
abbrev pub value_count : Scope → Owner → ℕ
value_count s None = s.arguments + s.fields
value_count s (Some zero) = s.arguments + s.fields
value_count s (Some (suc l)) = literal_values (slice_get s.literals l)

------------------------------------------------------------
-- Names

-- it is not empty, and has no byte below 32, no byte 127 and no colon
abbrev pub IsPrinted : List ℕ → Type 0
IsPrinted t = (t ≢ []) × ((b : ℕ) → In b t → (32 ≤ b) × (b ≢ 127) × (b ≢ 58))

-- a name of the language, of 64 bytes at most
abbrev pub IsGrantName : List ℕ → Type 0
IsGrantName t = (is_name t ≡ true) × (among t reserved ≡ false) × (length t ≤ most_name_bytes)

module _ (file : ImageFile) where
  -- a member of a grant's primitive type
  abbrev pub IsMember : Option Grant → ℕ → Type 0
  IsMember None m = ⊥
  IsMember (Some g) m = m < length (members_of g.primitive)

  -- an atom names a grant, and a member of its primitive type
  abbrev pub AtomInRange : Atom → Type 0
  AtomInRange a = IsMember (slice_get file.grants a.grant) a.member

  ------------------------------------------------------------
  -- References

  -- a base type, or a listed one
  abbrev pub IsPlain : Reference → Type 0
  IsPlain (written.Listed t) = t < length file.types
  IsPlain (written.Literal l) = ⊥
  IsPlain (written.Grant g) = ⊥
  IsPlain (written.Instance y) = ⊥
  IsPlain r = Unit {0}

  -- an instance names itself and earlier ones, and the program all
  abbrev pub ReferenceInRange : ℕ → Scope → Reference → Type 0
  ReferenceInRange x s (written.Listed t) = t < length file.types
  ReferenceInRange x s (written.Literal l) = l < length s.literals
  ReferenceInRange x s (written.Grant g) = g < length file.grants
  ReferenceInRange x s (written.Instance y) = (y ≤ x) × (y < length file.instances)
  ReferenceInRange x s r = Unit {0}

  -- all of them are
  abbrev pub ArePlain : List Reference → Type 0
  ArePlain rs = (r : Reference) → In r rs → IsPlain r

  -- all of them name what is there
  abbrev pub AreInRange : ℕ → Scope → List Reference → Type 0
  AreInRange x s rs = (r : Reference) → In r rs → ReferenceInRange x s r

  -- the types of what an object is handed or captures, and those of its fields, which are plain
  pub record ValuesInRange (x : ℕ) (s : Scope) (before fields : ℕ) (rs : List Reference) : Type 0 where
    pub count : length rs ≡ before + fields
    pub all : AreInRange x s rs
    pub plain : ArePlain (drop before rs)

  ------------------------------------------------------------
  -- Listed types

  -- a method of a listed type names what is there
  pub record SignatureInRange (g : Signature) : Type 0 where
    pub method : g.method < length file.methods
    pub parameters : ArePlain g.parameters
    pub atoms : (a : Atom) → In a g.effect → AtomInRange a
    pub result : IsPlain g.result

  -- the methods of a listed type have different names
  pub record TypeInRange (t : List Signature) : Type 0 where
    pub apart : Apart (map (λ (g : Signature). g.method) t)
    pub each : (g : Signature) → In g t → SignatureInRange g

  ------------------------------------------------------------
  -- Rows

  -- a constant names what is there, and a text is not too long
  abbrev pub ConstantInRange : Constant → Type 0
  ConstantInRange (raw.Text t) = length t ≤ text_limit
  ConstantInRange (raw.Grant g) = g < length file.grants
  ConstantInRange (raw.Instance y) = y < length file.instances
  ConstantInRange c = Unit {0}

  -- a captured value names a slot of the body, or a value of the current object
  abbrev pub CaptureInRange : Scope → Owner → Body → Capture → Type 0
  CaptureInRange s owner b (Slot i) = i < b.slots
  CaptureInRange s owner b (Value i) = i < value_count s owner

  -- the literal, and all that it captures where it is made
  abbrev pub MadeInRange : Scope → Owner → Body → Option Literal → Type 0
  MadeInRange s owner b None = ⊥
  MadeInRange s owner b (Some l) = (c : Capture) → In c l.captures → CaptureInRange s owner b c

  -- the numbers of an instruction name what is there
  abbrev pub InstructionInRange : Scope → Owner → Body → Instruction → Type 0
  InstructionInRange s owner b (does.Push c) = ConstantInRange c
  InstructionInRange s owner b (does.Load i) = i < b.slots
  InstructionInRange s owner b (does.Store i) = i < b.slots
  InstructionInRange s owner b (does.Get i) = i < value_count s owner
  InstructionInRange s owner b (does.Set i) = i < value_count s owner
  InstructionInRange s owner b (does.Jump to) = to < length b.rows
  InstructionInRange s owner b (does.JumpFalse to) = to < length b.rows
  InstructionInRange s owner b (does.New l) = MadeInRange s owner b (slice_get s.literals l)
  InstructionInRange s owner b (does.Call m n) = m < length file.methods
  InstructionInRange s owner b i = Unit {0}

  -- its file is one of the image's, which count from 1
  pub record RowInRange (s : Scope) (owner : Owner) (b : Body) (r : Row) : Type 0 where
    pub some : 1 ≤ r.file
    pub most : r.file ≤ length file.files
    pub instruction : InstructionInRange s owner b r.instruction

  ------------------------------------------------------------
  -- Scopes

  -- the methods of an object have different names, which are listed
  pub record EntriesInRange (ms : List Entry) : Type 0 where
    pub apart : Apart (map (λ (m : Entry). m.method) ms)
    pub each : (m : Entry) → In m ms → m.method < length file.methods

  -- the first body has no parameters, and the rows of all bodies name what is there
  pub record ScopeInRange (s : Scope) : Type 0 where
    pub no_parameters : (b : Body) → slice_get file.bodies s.first ≡ Some b → b.parameters ≡ 0
    pub entries : EntriesInRange s.entries
    pub literals : (l : Literal) → In l s.literals → EntriesInRange l.entries
    pub rows :
        (r : Role) (b : Body) (row : Row) → In r (roles_of s) → slice_get file.bodies r.1 ≡ Some b → In row b.rows →
        RowInRange s r.0 b row

  -- each body stands once among the scopes
  pub record BodiesStandOnce : Type 0 where
    pub apart : Apart (scopes_bodies file.scopes)
    pub there : (b : ℕ) → In b (scopes_bodies file.scopes) → b < length file.bodies
    pub all : (b : ℕ) → b < length file.bodies → In b (scopes_bodies file.scopes)

  ------------------------------------------------------------
  -- What instances state

  -- a target names a row, types, and slots of `val`s that are stated
  pub record TargetInRange (x : ℕ) (s : Scope) (b : Body) (vals : ℕ) (t : Target) : Type 0 where
    pub address : t.address < length b.rows
    pub operands : AreInRange x s t.operands
    pub stored : (i : ℕ) → In i t.stored → (b.parameters < i) × (i ≤ b.parameters + vals)

  -- what is stated of a body has the lengths of the body, and names what is there
  pub record BoundsInRange (x : ℕ) (s : Scope) (b : Body) (n : Bounds) : Type 0 where
    pub printed : IsPrinted n.name
    -- under the same name wherever it is stated
    pub name : n.name ≡ name_by (typings_of file) n.body
    pub atoms : (a : Atom) → In a n.effect → AtomInRange a
    pub count : length n.parameters ≡ b.parameters
    pub parameters : ArePlain n.parameters
    pub result : IsPlain n.result
    -- as many as are stored at least
    pub stored : vals_of b.parameters (map (placed_of (texts_of file)) b.rows) ≤ length n.vals
    pub vals : AreInRange x s n.vals
    pub targets : (t : Target) → In t n.targets → TargetInRange x s b (length n.vals) t

  -- the types of a literal's values are stated: those that it captures, and its fields
  pub record LiteralStated (x : ℕ) (s : Scope) (l : Option Literal) (rs : List Reference) : Type 0 where
    pub literal : Literal
    pub there : l ≡ Some literal
    pub values : ValuesInRange x s (length literal.captures) literal.fields rs

  -- what is stated of an instance has the lengths of its scope, each of its bodies once, and different names
  pub record TypingInRange (x : ℕ) (s : Scope) (t : Typing) : Type 0 where
    pub values : ValuesInRange x s s.arguments s.fields t.values
    pub count : length t.literals ≡ length s.literals
    pub literals :
        (l : ℕ) (rs : List Reference) → slice_get t.literals l ≡ Some rs → LiteralStated x s (slice_get s.literals l) rs
    -- each body of the scope once, and no other
    pub apart : Apart (map (λ (n : Bounds). n.body) t.bodies)
    pub bodies : (b : ℕ) → In b (map (λ (n : Bounds). n.body) t.bodies) ↔ In b (role_bodies (roles_of s))
    pub names : Apart (map (λ (n : Bounds). n.name) t.bodies)
    pub each : (n : Bounds) (b : Body) → In n t.bodies → slice_get file.bodies n.body ≡ Some b → BoundsInRange x s b n

  -- an argument is a grant, or an earlier instance
  abbrev pub ArgumentInRange : ℕ → Argument → Type 0
  ArgumentInRange x (handed.Grant g) = g < length file.grants
  ArgumentInRange x (handed.Instance y) = y < x

  -- an instance has a scope, and an argument for each of those that the scope has
  pub record InstanceInRange (x : ℕ) (i : Instance) : Type 0 where
    pub printed : IsPrinted i.name
    pub scope : Scope
    pub there : slice_get file.scopes i.scope ≡ Some scope
    pub count : length i.arguments ≡ scope.arguments
    pub arguments : (a : Argument) → In a i.arguments → ArgumentInRange x a
    pub typing : TypingInRange x scope i.typing

  -- the program's scope has neither arguments nor fields
  pub record MainInRange : Type 0 where
    pub scope : Scope
    pub there : slice_get file.scopes file.main.scope ≡ Some scope
    pub no_arguments : scope.arguments ≡ 0
    pub no_fields : scope.fields ≡ 0
    pub typing : TypingInRange (length file.instances) scope file.main.typing

  ------------------------------------------------------------
  -- The whole image

  -- the limits on files, grants, instances, bodies and slots
  pub record LimitsKept : Type 0 where
    pub files : length file.files ≤ limit_number limit.Files
    pub grants : length file.grants ≤ limit_number limit.Grants
    pub instances : length file.instances ≤ limit_number limit.Instances
    pub bodies : length file.bodies ≤ limit_number limit.Bodies
    pub slots : (b : Body) → In b file.bodies → b.slots ≤ limit_number limit.Slots

  -- V-Range of the whole image
  pub record IsInRange : Type 0 where
    pub limits : LimitsKept
    pub grants : Apart (map (λ (g : Grant). g.name) file.grants)
    pub grant_names : (g : Grant) → In g file.grants → IsGrantName g.name
    pub methods : Apart file.methods
    pub types : (t : List Signature) → In t file.types → TypeInRange t
    pub scopes : (s : Scope) → In s file.scopes → ScopeInRange s
    pub bodies : BodiesStandOnce
    pub names : Apart (codes "main" ∷ map (λ (i : Instance). i.name) file.instances)
    pub instances : (x : ℕ) (i : Instance) → slice_get file.instances x ≡ Some i → InstanceInRange x i
    pub main : MainInRange
