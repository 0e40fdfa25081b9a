-- The types that occur in a run of an image, their methods, and subtyping over them.
use Rattle.std.specs.Prelude.{◌≡◌, ℕ, zero, suc, List, [], ◌∷◌, map}
use Rattle.std.specs.Prelude.{replicate, ◌⊎◌, Option, Some, None, slice_get, nat_eq, if◌then◌else◌}
pub use Rattle.wy_text.specs.Members.{In, Within}
use Rattle.wy_device.specs.declared.operation.OpName.{OpName}
use Rattle.wy_device.specs.declared.operation.OpName.TheVariants as name
use Rattle.wy_device.specs.Primitives.{operations_of}
use Rattle.wy_device.specs.Requests.{operation_called}
use Rattle.wy_code.specs.declared.code.Grant.{Grant as CodeGrant}
use Rattle.wy_code.specs.declared.code.Literal.{Literal}
use Rattle.wy_code.specs.Machine.{literal_of, body_called}
use Rattle.wy_image.specs.declared.typing.Reference.{Reference}
use Rattle.wy_image.specs.declared.typing.Reference.TheVariants as written
use Rattle.wy_image.specs.declared.typing.Atom.{Atom}
use Rattle.wy_image.specs.declared.typing.Signature.{Signature}
use Rattle.wy_image.specs.declared.typing.Bounds.{Bounds}
use Rattle.wy_image.specs.declared.typing.Typing.{Typing}
use Rattle.wy_verified.specs.Images.{Image}
pub use Rattle.wy_verified.specs.declared.known.Kind.{Kind}
pub use Rattle.wy_verified.specs.declared.known.Kind.TheVariants.{Ints, Truths, Texts, Units, Named, Own, Granted}

-- what the instance of a number writes so
abbrev pub kind_in : ℕ → Reference → Kind
kind_in x written.Int = Ints
kind_in x written.Truth = Truths
kind_in x written.Bytes = Texts
kind_in x written.Unit = Units
kind_in x (written.Listed t) = Named t
kind_in x (written.Literal l) = Own x (suc l)
kind_in x (written.Grant g) = Granted g
kind_in x (written.Instance y) = Own y 0

-- .. and each of a list
abbrev pub kinds_in : ℕ → List Reference → List Kind
kinds_in x rs = map (kind_in x) rs

-- a method as types have it
pub record MethodType : Type 0 where
  pub params : List Kind
  pub effect : List Atom
  pub result : Kind

------------------------------------------------------------
-- The methods of grants

-- the number of texts that an operation takes
abbrev pub text_count : OpName → ℕ
text_count name.ConsoleRead = 0
text_count name.ConsoleWrite = 1
text_count name.FolderRead = 1
text_count name.FolderHas = 1
text_count name.FolderWrite = 2
text_count name.FolderAppend = 2
text_count name.FolderNames = 0
text_count name.ClockNow = 0
text_count name.RandomWord = 0
text_count name.FolderRemove = 1

-- the type of its answer
abbrev pub answer_kind : OpName → Kind
answer_kind name.ConsoleRead = Texts
answer_kind name.ConsoleWrite = Units
answer_kind name.FolderRead = Texts
answer_kind name.FolderHas = Truths
answer_kind name.FolderWrite = Units
answer_kind name.FolderAppend = Units
answer_kind name.FolderNames = Texts
answer_kind name.ClockNow = Ints
answer_kind name.RandomWord = Ints
answer_kind name.FolderRemove = Units

-- the number of an operation's member among those of its primitive type
abbrev pub member_number : OpName → ℕ
member_number name.ConsoleRead = 0
member_number name.ConsoleWrite = 1
member_number name.FolderRead = 0
member_number name.FolderHas = 0
member_number name.FolderWrite = 1
member_number name.FolderAppend = 2
member_number name.FolderNames = 3
member_number name.ClockNow = 0
member_number name.RandomWord = 0
member_number name.FolderRemove = 4

-- an operation of a grant, as a method
abbrev pub operation_method : ℕ → Option OpName → Option MethodType
operation_method g None = None
operation_method g (Some o) =
    let own : Atom = record { grant = g; member = member_number o } in
    Some (record { params = replicate (text_count o) Texts; effect = own ∷ []; result = answer_kind o })

-- the method of a grant that has a name
abbrev pub granted_method : ℕ → Option CodeGrant → Option (List ℕ) → Option MethodType
granted_method g None m = None
granted_method g (Some grant) None = None
granted_method g (Some grant) (Some m) = operation_method g (operation_called m (operations_of grant.primitive))

------------------------------------------------------------
-- The methods of listed types and of objects

-- a method of a listed type, which names no instance
abbrev pub signature_method : ℕ → Signature → MethodType
signature_method x s = record { params = kinds_in x s.parameters; effect = s.effect; result = kind_in x s.result }

-- the first method of a number among those of a listed type
abbrev pub listed_in : ℕ → List Signature → Option MethodType
listed_in m [] = None
listed_in m (s ∷ ss) = if nat_eq s.method m then Some (signature_method 0 s) else listed_in m ss

-- .. of a listed type, if there is one
abbrev pub listed_method : Option (List Signature) → ℕ → Option MethodType
listed_method None m = None
listed_method (Some t) m = listed_in m t

-- what is stated of a body
abbrev pub stated_in : ℕ → List Bounds → Option Bounds
stated_in b [] = None
stated_in b (s ∷ ss) = if nat_eq s.body b then Some s else stated_in b ss

-- .. among what is stated of an instance
abbrev pub stated_by : Option Typing → ℕ → Option Bounds
stated_by None b = None
stated_by (Some t) b = stated_in b t.bodies

-- what an instance states of a body
abbrev pub stated : Image → ℕ → ℕ → Option Bounds
stated image x b = stated_by (slice_get image.typings x) b

-- a body as a method of its instance
abbrev pub bounds_method : ℕ → Option Bounds → Option MethodType
bounds_method x None = None
bounds_method x (Some b) =
    Some (record { params = kinds_in x b.parameters; effect = b.effect; result = kind_in x b.result })

-- the method whose body has a number
abbrev pub own_called : Image → ℕ → Option ℕ → Option MethodType
own_called image x None = None
own_called image x (Some b) = bounds_method x (stated image x b)

-- the method of an object of a literal
abbrev pub own_method : Image → ℕ → Option Literal → ℕ → Option MethodType
own_method image x None m = None
own_method image x (Some l) m = own_called image x (body_called m l.methods)

-- the method of a number among the names. For an object it is what its own instance states of the body that is called
abbrev pub methods : Image → Kind → ℕ → Option MethodType
methods image (Named t) m = listed_method (slice_get image.types t) m
methods image (Own x l) m = own_method image x (literal_of image.code x l) m
methods image (Granted g) m = granted_method g (slice_get image.code.grants g) (slice_get image.names m)
methods image Ints m = None
methods image Truths m = None
methods image Texts m = None
methods image Units m = None

------------------------------------------------------------
-- The types of an object's values

-- the types that are stated of a literal, if they are
abbrev pub values_of : Option (List Reference) → List Reference
values_of None = []
values_of (Some v) = v

-- the types of the values of a literal, as they are stated; those of literal 0 are the module's
abbrev pub values_by : Option Typing → ℕ → List Reference
values_by None l = []
values_by (Some t) zero = t.values
values_by (Some t) (suc l) = values_of (slice_get t.literals l)

-- the types of the values of an object of an instance and a literal
abbrev pub value_kinds : Image → ℕ → ℕ → List Kind
value_kinds image x l = kinds_in x (values_by (slice_get image.typings x) l)

------------------------------------------------------------
-- Subtyping: a list of pairs that has this one, each of them closed

-- a type of objects
abbrev pub IsObject : Kind → Type 0
IsObject (Named t) = Unit {0}
IsObject (Own x l) = Unit {0}
IsObject (Granted g) = Unit {0}
IsObject Ints = ⊥
IsObject Truths = ⊥
IsObject Texts = ⊥
IsObject Units = ⊥

-- a type, and one of which it is a subtype
abbrev pub Pair : Type 0
Pair = Kind × Kind

-- the pairs of the parameters are listed, with sides exchanged
abbrev pub ParamsIn : List Pair → List Kind → List Kind → Type 0
ParamsIn ps [] [] = Unit {0}
ParamsIn ps [] (b ∷ right) = ⊥
ParamsIn ps (a ∷ left) [] = ⊥
ParamsIn ps (a ∷ left) (b ∷ right) = In {X = Pair} (b, a) ps × ParamsIn ps left right

-- a method can be called in place of another, by the pairs that are listed
pub record Covers (ps : List Pair) (left right : MethodType) : Type 0 where
  pub params : ParamsIn ps left.params right.params
  pub effect : Within left.effect right.effect
  pub result : In {X = Pair} (left.result, right.result) ps

-- .. and there is one
abbrev pub HasCover : List Pair → Option MethodType → MethodType → Type 0
HasCover ps None right = ⊥
HasCover ps (Some left) right = Covers ps left right

-- a pair is closed: the same base type, or object types of which the left has each method of the right
abbrev pub IsClosed : Image → List Pair → Pair → Type 0
IsClosed image ps p =
    ((p.0 ≡ p.1) × (IsObject p.0 → ⊥)) ⊎
    (IsObject p.0 × IsObject p.1 ×
    ((m : ℕ) (g : MethodType) → methods image p.1 m ≡ Some g → HasCover ps (methods image p.0 m) g))

-- a list of closed pairs has this one
pub record IsSubtype (image : Image) (s t : Kind) : Type 0 where
  pub pairs : List Pair
  pub first : In {X = Pair} (s, t) pairs
  pub closed : (p : Pair) → In p pairs → IsClosed image pairs p

-- the asked type or a subtype
abbrev pub Fits : Image → Kind → Kind → Type 0
Fits image s t = (s ≡ t) ⊎ IsSubtype image s t

-- .. one by one, and as many
abbrev pub AllFit : Image → List Kind → List Kind → Type 0
AllFit image [] [] = Unit {0}
AllFit image [] (t ∷ ts) = ⊥
AllFit image (s ∷ ss) [] = ⊥
AllFit image (s ∷ ss) (t ∷ ts) = Fits image s t × AllFit image ss ts
