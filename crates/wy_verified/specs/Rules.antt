-- The rules by which an image is verified: states of a body, one for each instruction.
use Rattle.std.specs.Prelude.{◌≡◌, ◌≢◌, ℕ, suc, ◌+◌, ◌-◌, ◌<◌, ◌≤◌, List}
use Rattle.std.specs.Prelude.{[], ◌∷◌, ◌++◌, length, ◌⊎◌, Option, Some, None, slice_get}
use Rattle.wy_code.specs.declared.code.Argument.{Argument}
use Rattle.wy_code.specs.declared.code.Argument.TheVariants as argument
use Rattle.wy_code.specs.declared.code.Body.{Body}
use Rattle.wy_code.specs.declared.code.Instance.{Instance}
use Rattle.wy_code.specs.declared.code.Literal.{Literal}
use Rattle.wy_code.specs.declared.code.Method.{Method}
use Rattle.wy_code.specs.declared.code.Scope.{Scope}
use Rattle.wy_code.specs.declared.code.Source.{Source}
use Rattle.wy_code.specs.declared.code.Source.TheVariants as source
use Rattle.wy_code.specs.declared.instruction.Constant.{Constant}
use Rattle.wy_code.specs.declared.instruction.Constant.TheVariants as constant
use Rattle.wy_code.specs.declared.instruction.Operator.{Operator}
use Rattle.wy_code.specs.declared.instruction.Operator.TheVariants.{Negate, Not, Add, Subtract, Multiply}
use Rattle.wy_code.specs.declared.instruction.Operator.TheVariants.{Divide, Remainder, Join, Less, LessOrEqual}
use Rattle.wy_code.specs.declared.instruction.Operator.TheVariants.{Greater, GreaterOrEqual, Equal, NotEqual, Size}
use Rattle.wy_code.specs.declared.instruction.Operator.TheVariants.{Part, Code as CodeAt, Byte, Show}
use Rattle.wy_code.specs.declared.instruction.Instruction.{Instruction}
use Rattle.wy_code.specs.declared.instruction.Instruction.TheVariants.{Push, Load, Store, Get, Set, Drop, Op}
use Rattle.wy_code.specs.declared.instruction.Instruction.TheVariants.{Jump, JumpFalse, New, Call, Return, Finish}
use Rattle.wy_code.specs.declared.instruction.Placed.{Placed}
use Rattle.wy_code.specs.Machine.{all_instances, literal_of}
use Rattle.wy_image.specs.declared.typing.Bounds.{Bounds}
use Rattle.wy_verified.specs.Images.{Image}
pub use Rattle.wy_verified.specs.declared.known.Known.{Known}
use Rattle.wy_verified.specs.Kinds.{Kind, Ints, Truths, Texts, Units, Own, Granted, kind_in, kinds_in}
use Rattle.wy_verified.specs.Kinds.{MethodType, methods, stated, value_kinds, In, Within, Fits, AllFit}

-- whose a body is: None for an `init` or `run` body, Some l for a method of literal l (0 is the module itself)
abbrev pub Owner : Type 0
Owner = Option ℕ

------------------------------------------------------------
-- Operators

-- the operands of an operator, the first one first; the comparisons for equality take two of any one base type but Unit
abbrev pub operand_kinds : Operator → Kind → List Kind
operand_kinds Negate k = Ints ∷ []
operand_kinds Not k = Truths ∷ []
operand_kinds Join k = Texts ∷ Texts ∷ []
operand_kinds Equal k = k ∷ k ∷ []
operand_kinds NotEqual k = k ∷ k ∷ []
operand_kinds Size k = Texts ∷ []
operand_kinds Part k = Texts ∷ Ints ∷ Ints ∷ []
operand_kinds CodeAt k = Texts ∷ Ints ∷ []
operand_kinds Byte k = Ints ∷ []
operand_kinds Show k = Ints ∷ []
operand_kinds Add k = Ints ∷ Ints ∷ []
operand_kinds Subtract k = Ints ∷ Ints ∷ []
operand_kinds Multiply k = Ints ∷ Ints ∷ []
operand_kinds Divide k = Ints ∷ Ints ∷ []
operand_kinds Remainder k = Ints ∷ Ints ∷ []
operand_kinds Less k = Ints ∷ Ints ∷ []
operand_kinds LessOrEqual k = Ints ∷ Ints ∷ []
operand_kinds Greater k = Ints ∷ Ints ∷ []
operand_kinds GreaterOrEqual k = Ints ∷ Ints ∷ []

-- the type of the result of an operator
abbrev pub result_kind : Operator → Kind
result_kind Negate = Ints
result_kind Not = Truths
result_kind Join = Texts
result_kind Equal = Truths
result_kind NotEqual = Truths
result_kind Size = Ints
result_kind Part = Texts
result_kind CodeAt = Ints
result_kind Byte = Texts
result_kind Show = Texts
result_kind Add = Ints
result_kind Subtract = Ints
result_kind Multiply = Ints
result_kind Divide = Ints
result_kind Remainder = Ints
result_kind Less = Truths
result_kind LessOrEqual = Truths
result_kind Greater = Truths
result_kind GreaterOrEqual = Truths

-- a type whose values can be compared
abbrev pub IsCompared : Kind → Type 0
IsCompared k = (k ≡ Ints) ⊎ (k ≡ Truths) ⊎ (k ≡ Texts)

------------------------------------------------------------
-- A body: the number of its instance, its owner, its code and what is stated of it

-- the k topmost operands, the topmost first, and those below
abbrev pub Splits : List Kind → List Kind → List Kind → Type 0
Splits operands top below = operands ≡ top ++ below

-- the first list backwards, and then the second
abbrev pub reversed : List Kind → List Kind → List Kind
reversed [] ks = ks
reversed (k ∷ more) ks = reversed more (k ∷ ks)

-- the literal of the current object; an `init` body's is the module's own
abbrev pub literal_number : Owner → ℕ
literal_number None = 0
literal_number (Some l) = l

-- in an `init` body only the arguments can be read
abbrev pub CanRead : Owner → ℕ → ℕ → Type 0
CanRead None held i = i < held
CanRead (Some l) held i = Unit {0}

-- a field may be set: in an `init` body the next one that is unset
abbrev pub CanSet : Owner → ℕ → ℕ → ℕ → Type 0
CanSet None held set i = i ≡ held + set
CanSet (Some l) held set i = held ≤ i

-- the number of set fields after one is set
abbrev pub fields_after : Owner → ℕ → ℕ
fields_after None set = suc set
fields_after (Some l) set = set

module _ (image : Image) (x : ℕ) (owner : Owner) (body : Body) (bounds : Bounds) where
  -- the slot holds a value of the type: `this` in a method, a parameter, or a `val` that is stored
  abbrev pub ThisSlot : Owner → ℕ → Kind → Type 0
  ThisSlot None s k = ⊥
  ThisSlot (Some l) s k = (s ≡ 0) × (k ≡ Own x l)

  -- a slot that can be read has a value of the type
  pub record SlotHas (stored : List ℕ) (s : ℕ) (k : Kind) : Type 0 where
    pub by : ThisSlot owner s k ⊎ ((i : ℕ) × (s ≡ suc i) × (slice_get (kinds_in x bounds.parameters) i ≡ Some k)) ⊎
        ((j : ℕ) × (s ≡ suc (body.parameters + j)) × In s stored × (slice_get (kinds_in x bounds.vals) j ≡ Some k))

  -- a value of the current object has the type; `held` is how many values its object has before its fields
  pub record ValueIs (held i : ℕ) (k : Kind) : Type 0 where
    pub there : slice_get (value_kinds image x (literal_number owner)) i ≡ Some k
    pub read : CanRead owner held i

  -- a captured value has the type
  abbrev pub SourceHas : ℕ → List ℕ → Source → Kind → Type 0
  SourceHas held stored (source.Slot s) k = SlotHas stored s k
  SourceHas held stored (source.Value i) k = ValueIs held i k

  -- each captured value fits
  abbrev pub SourcesHave : ℕ → List ℕ → List Source → List Kind → Type 0
  SourcesHave held stored [] [] = Unit {0}
  SourcesHave held stored [] (k ∷ ks) = ⊥
  SourcesHave held stored (s ∷ ss) [] = ⊥
  SourcesHave held stored (s ∷ ss) (k ∷ ks) =
      ((j : Kind) × SourceHas held stored s j × Fits image j k) × SourcesHave held stored ss ks

  -- what is known may be less at the place that is reached
  pub record Reaches (known next : Known) : Type 0 where
    pub operands : AllFit image known.operands next.operands
    pub stored : (s : ℕ) → In s next.stored → In s known.stored
    pub set : next.set ≡ known.set

  -- a constant has the type; only the program pushes grants and instances
  abbrev pub Constants : Constant → Kind → Type 0
  Constants (constant.Int n) k = k ≡ Ints
  Constants (constant.Truth b) k = k ≡ Truths
  Constants constant.Unit k = k ≡ Units
  Constants (constant.Text t) k = (t < length image.code.texts) × (k ≡ Texts)
  Constants (constant.Grant g) k = (x ≡ length image.code.instances) × (k ≡ Granted g)
  Constants (constant.Instance y) k =
      (x ≡ length image.code.instances) × (y < length image.code.instances) × (k ≡ Own y 0)

  -- the operands at the end of a first body: one unit in the program, and none in a module
  abbrev pub FinishesWith : List Kind → Type 0
  FinishesWith operands =
      ((x < length image.code.instances) × (operands ≡ [])) ⊎
      ((x ≡ length image.code.instances) × ((k : Kind) × (operands ≡ k ∷ []) × Fits image k Units))

  -- there is room for one operand more than these
  abbrev pub HasRoom : List Kind → Type 0
  HasRoom operands = suc (body.parameters + body.vals) + length operands < body.slots

  module _ (held : ℕ) (states : List Known) where
    -- what is known comes to a place
    pub record Comes (to : ℕ) (known : Known) : Type 0 where
      pub next : Known
      pub there : slice_get states to ≡ Some next
      pub reaches : Reaches known next

    -- pushes a value of the type in place of the operands above these
    pub record Pushes (to : ℕ) (known : Known) (operands : List Kind) (k : Kind) : Type 0 where
      pub room : HasRoom operands
      pub comes : Comes to (record known { operands = k ∷ operands })

    -- `New`: the captured values and the fields have the types that the instance states for objects of the literal
    pub record Makes (at : ℕ) (known : Known) (l : ℕ) : Type 0 where
      pub literal : Literal
      pub top : List Kind
      pub rest : List Kind
      pub captured : List Kind
      pub fields : List Kind
      pub there : literal_of image.code x l ≡ Some literal
      pub no_module : l ≢ 0
      pub kinds : value_kinds image x l ≡ captured ++ fields
      pub sources : SourcesHave held known.stored literal.captures captured
      pub count : length top ≡ literal.fields
      pub operands : known.operands ≡ top ++ rest
      pub fit : AllFit image (reversed top []) fields
      pub pushes : Pushes (suc at) known rest (Own x l)

    -- `Call`: the receiver's type has the method, the arguments fit, and its effect is within the body's own
    pub record Calls (at : ℕ) (known : Known) (m n : ℕ) : Type 0 where
      -- the method is among those that code lists
      pub listed : slice_get image.names m ≡ slice_get image.code.methods m
      pub method : MethodType
      pub receiver : Kind
      pub top : List Kind
      pub rest : List Kind
      pub operands : known.operands ≡ top ++ receiver ∷ rest
      pub count : length top ≡ n
      pub there : methods image receiver m ≡ Some method
      pub fit : AllFit image (reversed top []) method.params
      pub effect : Within method.effect bounds.effect
      pub pushes : Pushes (suc at) known rest method.result

    -- the instruction at a place follows the rules, by what is known there
    abbrev pub Follows : ℕ → Known → Instruction → Type 0
    Follows at known (Push c) = (k : Kind) × Constants c k × Pushes (suc at) known known.operands k
    Follows at known (Load s) = (k : Kind) × SlotHas known.stored s k × Pushes (suc at) known known.operands k
    Follows at known (Store s) =
        (j : ℕ) × (k : Kind) × (v : Kind) × (rest : List Kind) × (s ≡ suc (body.parameters + j)) ×
        (slice_get (kinds_in x bounds.vals) j ≡ Some v) × (known.operands ≡ k ∷ rest) × Fits image k v ×
        Comes (suc at) (record known { operands = rest; stored = s ∷ known.stored }) × (j < body.vals)
    Follows at known (Get i) = (k : Kind) × ValueIs held i k × Pushes (suc at) known known.operands k
    Follows at known (Set i) =
        (k : Kind) × (v : Kind) × (rest : List Kind) ×
        (slice_get (value_kinds image x (literal_number owner)) i ≡ Some v) × CanSet owner held known.set i ×
        (known.operands ≡ k ∷ rest) × Fits image k v ×
        Comes (suc at) (record known { operands = rest; set = fields_after owner known.set })
    Follows at known Drop =
        (k : Kind) × (rest : List Kind) × (known.operands ≡ k ∷ rest) ×
        Comes (suc at) (record known { operands = rest })
    Follows at known (Op o) =
        (k : Kind) × (top : List Kind) × (rest : List Kind) × IsCompared k × (known.operands ≡ top ++ rest) ×
        AllFit image (reversed top []) (operand_kinds o k) × Pushes (suc at) known rest (result_kind o)
    Follows at known (Jump to) = (at < to) × Comes to known
    Follows at known (JumpFalse to) =
        (k : Kind) × (rest : List Kind) × (known.operands ≡ k ∷ rest) × Fits image k Truths × (at < to) ×
        Comes (suc at) (record known { operands = rest }) × Comes to (record known { operands = rest })
    Follows at known (New l) = Makes at known l
    Follows at known (Call m n) = Calls at known m n
    Follows at known Return =
        (l : ℕ) × (k : Kind) × (owner ≡ Some l) × (known.operands ≡ k ∷ []) × Fits image k (kind_in x bounds.result)
    Follows at known Finish =
        (owner ≡ None) × (held + known.set ≡ length (value_kinds image x 0)) × FinishesWith known.operands

------------------------------------------------------------
-- Bodies, instances and images

-- what is known at the start of a body
abbrev pub at_first : Known
at_first = record { operands = []; stored = []; set = 0 }

-- the values that an object of an owner has before its fields
abbrev pub held_of : Image → ℕ → Owner → Option Instance → Option Literal → ℕ
held_of image x None None l = 0
held_of image x None (Some i) l = length i.arguments
held_of image x (Some l) i None = 0
held_of image x (Some l) i (Some literal) = length (value_kinds image x l) - literal.fields

-- a body follows the rules, by a state for each of its instructions
pub record BodyFollows (image : Image) (x : ℕ) (owner : Owner) (body : Body) (bounds : Bounds) (held : ℕ) : Type 0 where
  pub name : body.name ≡ bounds.name
  pub parameters : length bounds.parameters ≡ body.parameters
  pub vals : body.vals ≤ length bounds.vals
  pub states : List Known
  pub long : length states ≡ length body.instructions
  pub first : slice_get states 0 ≡ Some at_first
  pub each : (at : ℕ) (placed : Placed) (known : Known) → slice_get body.instructions at ≡ Some placed →
      slice_get states at ≡ Some known → Follows image x owner body bounds held states at known placed.instruction

-- what is asked of a body, by its instance, its owner, its code, what is stated of it, and the number of values that
-- its object has before its fields
abbrev pub Judgement : Type 1
Judgement = Image → ℕ → Owner → Body → Bounds → ℕ → Type 0

-- what is said of bodies holds of one, with what is stated of it
pub record BodyIs (J : Judgement) (image : Image) (x : ℕ) (owner : Owner) (b held : ℕ) : Type 0 where
  pub body : Body
  pub bounds : Bounds
  pub there : slice_get image.code.bodies b ≡ Some body
  pub is_stated : stated image x b ≡ Some bounds
  pub follows : J image x owner body bounds held

-- what an instance is handed fits
abbrev pub ArgumentFits : Image → ℕ → Argument → Kind → Type 0
ArgumentFits image x (argument.Grant g) k = Fits image (Granted g) k
ArgumentFits image x (argument.Instance y) k = (y < x) × Fits image (Own y 0) k

-- each argument fits the type of its value
abbrev pub ArgumentsFit : Image → ℕ → List Argument → List Kind → Type 0
ArgumentsFit image x [] ks = Unit {0}
ArgumentsFit image x (a ∷ more) [] = ⊥
ArgumentsFit image x (a ∷ more) (k ∷ ks) = ArgumentFits image x a k × ArgumentsFit image x more ks

-- what is said of bodies holds of each of an instance
pub record InstanceIs (J : Judgement) (image : Image) (x : ℕ) (i : Instance) : Type 0 where
  pub scope : Scope
  pub there : slice_get image.code.scopes i.scope ≡ Some scope
  pub own : Literal
  pub is_own : slice_get scope.literals 0 ≡ Some own
  -- the values of its own object: what it is handed, and its fields
  pub values : length (value_kinds image x 0) ≡ length i.arguments + own.fields
  pub arguments : ArgumentsFit image x i.arguments (value_kinds image x 0)
  pub start : BodyIs J image x None scope.start (length i.arguments)
  pub no_parameters : start.body.parameters ≡ 0
  pub methods :
      (l : ℕ) (literal : Literal) (m : Method) → slice_get scope.literals l ≡ Some literal → In m literal.methods →
      BodyIs J image x (Some l) m.body (length (value_kinds image x l) - literal.fields)

-- .. of each instance and of the program, and their arguments fit
pub record IsVerifiedBy (J : Judgement) (image : Image) : Type 0 where
  pub each : (x : ℕ) (i : Instance) → slice_get (all_instances image.code) x ≡ Some i → InstanceIs J image x i
  pub main : value_kinds image (length image.code.instances) 0 ≡ []

-- all bodies follow the rules
abbrev pub IsVerified : Image → Type 0
IsVerified image = IsVerifiedBy BodyFollows image
