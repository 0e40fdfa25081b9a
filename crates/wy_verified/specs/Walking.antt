-- The rules as the verifier tests them: at each instruction of a body one rule after the other, on what is known there.
-- Each rule is a test of its own, so that the first one that fails can be named. If all hold, the walk goes on with
-- `after`, or with what the target there states.
use Rattle.std.specs.Prelude.{◌≡◌, ◌≢◌, ℕ, zero, suc, ◌+◌, ◌-◌, ◌<◌, ◌≤◌, Bool, true, false, List}
use Rattle.std.specs.Prelude.{[], ◌∷◌, length, take, drop, ◌⊎◌, Option}
use Rattle.std.specs.Prelude.{Some, None, slice_get, nat_eq, nat_lt, if◌then◌else◌}
use Rattle.wy_code.specs.declared.code.Body.{Body}
use Rattle.wy_code.specs.declared.code.Literal.{Literal}
use Rattle.wy_code.specs.declared.code.Source.{Source}
use Rattle.wy_code.specs.declared.code.Source.TheVariants as source
use Rattle.wy_code.specs.declared.instruction.Constant.{Constant}
use Rattle.wy_code.specs.declared.instruction.Constant.TheVariants as constant
use Rattle.wy_code.specs.declared.instruction.Instruction.{Instruction}
use Rattle.wy_code.specs.declared.instruction.Instruction.TheVariants.{Push, Load, Store, Get, Set, Drop, Op}
use Rattle.wy_code.specs.declared.instruction.Instruction.TheVariants.{Jump, JumpFalse, New, Call, Return, Finish}
use Rattle.wy_code.specs.declared.instruction.Placed.{Placed}
use Rattle.wy_code.specs.Machine.{literal_of}
use Rattle.wy_code.specs.Operations.{operand_count}
use Rattle.wy_image.specs.declared.typing.Bounds.{Bounds}
use Rattle.wy_image.specs.declared.typing.Target.{Target}
use Rattle.wy_verified.specs.Images.{Image}
pub use Rattle.wy_verified.specs.declared.known.VerifyRule.{VerifyRule}
pub use Rattle.wy_verified.specs.declared.known.VerifyRule.TheVariants.{Range, Argument, Flow, State}
pub use Rattle.wy_verified.specs.declared.known.VerifyRule.TheVariants.{Depth, Types, Effect}
use Rattle.wy_verified.specs.Kinds.{Kind, Ints, Truths, Texts, Units, Own, Granted, kind_in}
use Rattle.wy_verified.specs.Kinds.{kinds_in, MethodType, methods, value_kinds, In, Within, Fits, AllFit}
use Rattle.wy_verified.specs.Rules.{Known, Owner, operand_kinds, result_kind, IsCompared, reversed}
use Rattle.wy_verified.specs.Rules.{literal_number, CanRead, CanSet, fields_after, at_first}

------------------------------------------------------------
-- Reading what is known

-- the type of the topmost operand
abbrev pub top_kind : List Kind → Kind
top_kind [] = Units
top_kind (k ∷ ks) = k

-- a type, if there is one
abbrev pub kind_or : Option Kind → Kind
kind_or None = Units
kind_or (Some k) = k

-- there is a type
abbrev pub IsReadable : Option Kind → Type 0
IsReadable None = ⊥
IsReadable (Some k) = Unit {0}

-- a number is in a list
abbrev pub is_in : ℕ → List ℕ → Bool
is_in s [] = false
is_in s (r ∷ rs) = if nat_eq r s then true else is_in s rs

-- each slot once
abbrev pub with_slot : ℕ → List ℕ → List ℕ
with_slot s stored = if is_in s stored then stored else s ∷ stored

-- the first target of an address
abbrev pub target_in : ℕ → List Target → Option Target
target_in to [] = None
target_in to (t ∷ ts) = if nat_eq t.address to then Some t else target_in to ts

-- the types of the operands at a target, the topmost first; the target has them in the order in which they were pushed
abbrev pub target_kinds : ℕ → Target → List Kind
target_kinds x t = reversed (kinds_in x t.operands) []

-- what is known at a target
abbrev pub known_at : ℕ → Target → ℕ → Known
known_at x t set = record { operands = target_kinds x t; stored = t.stored; set = set }

-- the number of fields of a literal
abbrev pub fields_of : Option Literal → ℕ
fields_of None = 0
fields_of (Some l) = l.fields

-- there is a literal
abbrev pub IsSomeLiteral : Option Literal → Type 0
IsSomeLiteral None = ⊥
IsSomeLiteral (Some l) = Unit {0}

-- the captured values of a literal
abbrev pub captures_of : Option Literal → List Source
captures_of None = []
captures_of (Some l) = l.captures

-- the result type of a method
abbrev pub result_of : Option MethodType → Kind
result_of None = Units
result_of (Some g) = g.result

module _ (image : Image) (x : ℕ) (owner : Owner) (body : Body) (bounds : Bounds) (held : ℕ) where
  -- an object of the literal, or no object at all
  abbrev pub this_kind : Owner → Option Kind
  this_kind None = None
  this_kind (Some l) = Some (Own x l)

  -- the type of what can be read in a slot
  abbrev pub slot_kind : List ℕ → ℕ → Option Kind
  slot_kind stored zero = this_kind owner
  slot_kind stored (suc i) =
      if nat_lt i body.parameters then slice_get (kinds_in x bounds.parameters) i
      else if is_in (suc i) stored then slice_get (kinds_in x bounds.vals) (i - body.parameters)
      else None

  -- the type of a value of the current object
  abbrev pub value_kind : ℕ → Option Kind
  value_kind i = slice_get (value_kinds image x (literal_number owner)) i

  -- the type of a constant
  abbrev pub constant_kind : Constant → Kind
  constant_kind (constant.Int n) = Ints
  constant_kind (constant.Truth b) = Truths
  constant_kind constant.Unit = Units
  constant_kind (constant.Text t) = Texts
  constant_kind (constant.Grant g) = Granted g
  constant_kind (constant.Instance y) = Own y 0

  -- how many operands an instruction pops
  abbrev pub popped : Instruction → ℕ
  popped (Push c) = 0
  popped (Load s) = 0
  popped (Store s) = 1
  popped (Get i) = 0
  popped (Set i) = 1
  popped Drop = 1
  popped (Op o) = operand_count o
  popped (Jump to) = 0
  popped (JumpFalse to) = 1
  popped (New l) = fields_of (literal_of image.code x l)
  popped (Call m n) = n + 1
  popped Return = 1
  popped Finish = 0

  -- the receiver of a call, below its arguments
  abbrev pub receiver_of : ℕ → List Kind → Kind
  receiver_of n ks = top_kind (drop n ks)

  -- the operands after an instruction, where all rules hold of it
  abbrev pub operands_after : Known → Instruction → List Kind
  operands_after known (Push c) = constant_kind c ∷ known.operands
  operands_after known (Load s) = kind_or (slot_kind known.stored s) ∷ known.operands
  operands_after known (Store s) = drop 1 known.operands
  operands_after known (Get i) = kind_or (value_kind i) ∷ known.operands
  operands_after known (Set i) = drop 1 known.operands
  operands_after known Drop = drop 1 known.operands
  operands_after known (Op o) = result_kind o ∷ drop (operand_count o) known.operands
  operands_after known (Jump to) = known.operands
  operands_after known (JumpFalse to) = drop 1 known.operands
  operands_after known (New l) = Own x l ∷ drop (fields_of (literal_of image.code x l)) known.operands
  operands_after known (Call m n) =
      result_of (methods image (receiver_of n known.operands) m) ∷ drop (n + 1) known.operands
  operands_after known Return = []
  operands_after known Finish = []

  -- the stored slots after an instruction
  abbrev pub stored_after : Known → Instruction → List ℕ
  stored_after known (Store s) = with_slot s known.stored
  stored_after known i = known.stored

  -- the number of set fields after an instruction
  abbrev pub set_after : Known → Instruction → ℕ
  set_after known (Set i) = fields_after owner known.set
  set_after known i = known.set

  -- what is known after an instruction
  abbrev pub after : Known → Instruction → Known
  after known i = record { operands = operands_after known i; stored = stored_after known i; set = set_after known i }

  ------------------------------------------------------------
  -- Where an instruction leads

  -- the next place is reached from this one
  abbrev pub FallsThrough : Instruction → Type 0
  FallsThrough (Jump to) = ⊥
  FallsThrough Return = ⊥
  FallsThrough Finish = ⊥
  FallsThrough i = Unit {0}

  -- the instruction jumps to an address
  abbrev pub JumpsTo : Instruction → ℕ → Type 0
  JumpsTo (Jump a) to = a ≡ to
  JumpsTo (JumpFalse a) to = a ≡ to
  JumpsTo i to = ⊥

  -- the instruction leads to an address, by a jump or to the next place
  abbrev pub Leads : ℕ → Instruction → ℕ → Type 0
  Leads at i to = (FallsThrough i × (to ≡ suc at)) ⊎ JumpsTo i to

  -- a target is stated for an address
  abbrev pub IsTarget : ℕ → Type 0
  IsTarget to = (t : Target) × (target_in to bounds.targets ≡ Some t)

  -- some jump up to this place leads there
  abbrev pub IsJumpedTo : ℕ → ℕ → Type 0
  IsJumpedTo at to =
      (j : ℕ) × (p : Placed) × (j ≤ at) × (slice_get body.instructions j ≡ Some p) × JumpsTo p.instruction to

  ------------------------------------------------------------
  -- V-Flow

  -- where the next place is not reached from this one, an earlier jump leads there, or it is the end
  abbrev pub EndsWell : ℕ → Type 0
  EndsWell at = (suc at ≡ length body.instructions) ⊎ IsJumpedTo at (suc at)

  -- a jump goes forward to a stated target
  abbrev pub GoesForward : ℕ → ℕ → Type 0
  GoesForward at to = (at < to) × (to < length body.instructions) × IsTarget to

  -- the body of a method
  abbrev pub IsMethod : Owner → Type 0
  IsMethod None = ⊥
  IsMethod (Some l) = Unit {0}

  -- the `init` or `run` body
  abbrev pub IsStart : Owner → Type 0
  IsStart None = Unit {0}
  IsStart (Some l) = ⊥

  -- V-Flow at an instruction
  abbrev pub FlowOk : ℕ → Instruction → Type 0
  FlowOk at (Jump to) = GoesForward at to × EndsWell at
  FlowOk at (JumpFalse to) = GoesForward at to × (suc at < length body.instructions)
  FlowOk at Return = IsMethod owner × EndsWell at
  FlowOk at Finish = IsStart owner × EndsWell at
  FlowOk at i = suc at < length body.instructions

  ------------------------------------------------------------
  -- V-State

  -- the type of a captured value
  abbrev pub source_kind : List ℕ → Source → Option Kind
  source_kind stored (source.Slot s) = slot_kind stored s
  source_kind stored (source.Value i) = value_kind i

  -- a captured value can be read
  abbrev pub SourceOk : List ℕ → Source → Type 0
  SourceOk stored (source.Slot s) = IsReadable (slot_kind stored s)
  SourceOk stored (source.Value i) = IsReadable (value_kind i) × CanRead owner held i

  -- all of them can be
  abbrev pub SourcesOk : List ℕ → List Source → Type 0
  SourcesOk stored [] = Unit {0}
  SourcesOk stored (s ∷ ss) = SourceOk stored s × SourcesOk stored ss

  -- the program itself
  abbrev pub IsMain : Type 0
  IsMain = x ≡ length image.code.instances

  -- only the program pushes grants and instances
  abbrev pub ConstantOk : Constant → Type 0
  ConstantOk (constant.Grant g) = IsMain
  ConstantOk (constant.Instance y) = IsMain
  ConstantOk c = Unit {0}

  -- what the state that reaches a place must have of what the target says
  abbrev pub MeetsState : Known → Option Target → Type 0
  MeetsState known None = Unit {0}
  MeetsState known (Some t) =
      (length known.operands ≡ length t.operands) × ((s : ℕ) → In s t.stored → In s known.stored)

  -- .. wherever the instruction leads
  abbrev pub ReachesInState : ℕ → Known → Instruction → Type 0
  ReachesInState at known i = (to : ℕ) → Leads at i to → MeetsState (after known i) (target_in to bounds.targets)

  -- Main's first body ends with one operand, every other one with none
  abbrev pub FinishOk : List Kind → Type 0
  FinishOk operands = ((x < length image.code.instances) × (length operands ≡ 0)) ⊎ (IsMain × (length operands ≡ 1))

  -- the part of V-State that depends on the form of the instruction
  abbrev pub InstructionState : Known → Instruction → Type 0
  InstructionState known (Push c) = ConstantOk c
  InstructionState known (Load s) = IsReadable (slot_kind known.stored s)
  InstructionState known (Store s) = (body.parameters < s) × (s < suc (body.parameters + body.vals))
  InstructionState known (Get i) = IsReadable (value_kind i) × CanRead owner held i
  InstructionState known (Set i) = IsReadable (value_kind i) × CanSet owner held known.set i
  InstructionState known (New l) = SourcesOk known.stored (captures_of (literal_of image.code x l))
  InstructionState known Return = length known.operands ≡ 1
  InstructionState known Finish = (held + known.set ≡ length (value_kinds image x 0)) × FinishOk known.operands
  InstructionState known i = Unit {0}

  -- V-State at an instruction
  abbrev pub StateOk : ℕ → Known → Instruction → Type 0
  StateOk at known i = (popped i ≤ length known.operands) × InstructionState known i × ReachesInState at known i

  ------------------------------------------------------------
  -- V-Depth

  -- V-Depth at an instruction
  abbrev pub DepthOk : Known → Instruction → Type 0
  DepthOk known i = suc (body.parameters + body.vals) + length (operands_after known i) ≤ body.slots

  ------------------------------------------------------------
  -- V-Type

  -- the operands fit those of the target
  abbrev pub MeetsTypes : Known → Option Target → Type 0
  MeetsTypes known None = Unit {0}
  MeetsTypes known (Some t) = AllFit image known.operands (target_kinds x t)

  -- .. wherever the instruction leads
  abbrev pub ReachesInTypes : ℕ → Known → Instruction → Type 0
  ReachesInTypes at known i = (to : ℕ) → Leads at i to → MeetsTypes (after known i) (target_in to bounds.targets)

  -- the captured values fit, and those after them are for the fields
  abbrev pub SourcesFit : List ℕ → List Source → List Kind → List Kind → Type 0
  SourcesFit stored [] fields kinds = AllFit image fields kinds
  SourcesFit stored (s ∷ ss) fields [] = ⊥
  SourcesFit stored (s ∷ ss) fields (k ∷ ks) =
      Fits image (kind_or (source_kind stored s)) k × SourcesFit stored ss fields ks

  -- there is a method, and the arguments fit its parameters
  abbrev pub CallTypes : List Kind → Option MethodType → Type 0
  CallTypes arguments None = ⊥
  CallTypes arguments (Some g) = AllFit image arguments g.params

  -- an operand that is left at the end is a unit
  abbrev pub FinishTypes : List Kind → Type 0
  FinishTypes [] = Unit {0}
  FinishTypes (k ∷ ks) = Fits image k Units

  -- the part of V-Type that depends on the form of the instruction
  abbrev pub InstructionTypes : Known → Instruction → Type 0
  InstructionTypes known (Store s) =
      Fits image (top_kind known.operands) (kind_or (slice_get (kinds_in x bounds.vals) (s - suc body.parameters)))
  InstructionTypes known (Set i) = Fits image (top_kind known.operands) (kind_or (value_kind i))
  InstructionTypes known (Op o) =
      (k : Kind) × IsCompared k × AllFit image (reversed (take (operand_count o) known.operands) []) (operand_kinds o k)
  InstructionTypes known (JumpFalse to) = Fits image (top_kind known.operands) Truths
  InstructionTypes known (New l) =
      SourcesFit known.stored (captures_of (literal_of image.code x l))
      (reversed (take (fields_of (literal_of image.code x l)) known.operands) []) (value_kinds image x l)
  InstructionTypes known (Call m n) =
      CallTypes (reversed (take n known.operands) []) (methods image (receiver_of n known.operands) m)
  InstructionTypes known Return = Fits image (top_kind known.operands) (kind_in x bounds.result)
  InstructionTypes known Finish = FinishTypes known.operands
  InstructionTypes known i = Unit {0}

  -- V-Type at an instruction
  abbrev pub TypesOk : ℕ → Known → Instruction → Type 0
  TypesOk at known i = InstructionTypes known i × ReachesInTypes at known i

  ------------------------------------------------------------
  -- V-Effect

  -- the effect of a method is within the one that the body states
  abbrev pub MethodEffect : Option MethodType → Type 0
  MethodEffect None = Unit {0}
  MethodEffect (Some g) = Within g.effect bounds.effect

  -- V-Effect at an instruction
  abbrev pub EffectOk : Known → Instruction → Type 0
  EffectOk known (Call m n) = MethodEffect (methods image (receiver_of n known.operands) m)
  EffectOk known i = Unit {0}

  ------------------------------------------------------------
  -- Walks

  -- what V-Range says of an instruction: its numbers name what is there
  abbrev pub RangeOk : Instruction → Type 0
  RangeOk (Push (constant.Text t)) = t < length image.code.texts
  RangeOk (Push (constant.Instance y)) = y < length image.code.instances
  RangeOk (Call m n) = slice_get image.names m ≡ slice_get image.code.methods m
  RangeOk (New l) = (l ≢ 0) × IsSomeLiteral (literal_of image.code x l)
  RangeOk i = Unit {0}

  -- a rule holds at an instruction
  abbrev pub Holds : VerifyRule → ℕ → Known → Instruction → Type 0
  Holds Range at known i = RangeOk i
  Holds Argument at known i = Unit {0}
  Holds Flow at known i = FlowOk at i
  Holds State at known i = StateOk at known i
  Holds Depth at known i = DepthOk known i
  Holds Types at known i = TypesOk at known i
  Holds Effect at known i = EffectOk known i

  -- a place has what the target says that stands there, or else what comes to it, and the fields that are set
  abbrev pub known_there : Option Target → Known → Known
  known_there None known = known
  known_there (Some t) known = known_at x t known.set

  -- all rules hold at a place, and what is known goes on where the instruction leads
  pub record Walks (states : List Known) (at : ℕ) (known : Known) (i : Instruction) : Type 0 where
    pub rules : (r : VerifyRule) → Holds r at known i
    pub leads : (to : ℕ) → Leads at i to →
        slice_get states to ≡ Some (known_there (target_in to bounds.targets) (after known i))

-- a body of which all rules hold, with a state for each instruction
pub record BodyWalks (image : Image) (x : ℕ) (owner : Owner) (body : Body) (bounds : Bounds) (held : ℕ) : Type 0 where
  pub name : body.name ≡ bounds.name
  pub parameters : length bounds.parameters ≡ body.parameters
  pub vals : body.vals ≤ length bounds.vals
  pub states : List Known
  pub long : length states ≡ length body.instructions
  pub first : slice_get states 0 ≡ Some at_first
  pub each : (at : ℕ) (placed : Placed) (known : Known) → slice_get body.instructions at ≡ Some placed →
      slice_get states at ≡ Some known → Walks image x owner body bounds held states at known placed.instruction

-- the rules in the order in which they are tried
abbrev pub rule_number : VerifyRule → ℕ
rule_number Range = 0
rule_number Argument = 1
rule_number Flow = 2
rule_number State = 3
rule_number Depth = 4
rule_number Types = 5
rule_number Effect = 6

-- a rule is tried before another
abbrev pub Before : VerifyRule → VerifyRule → Type 0
Before r s = rule_number r < rule_number s

-- the body fails first at an instruction by a rule: there are states up to this place, and all rules hold before it
pub record FailsFirst (image : Image) (x : ℕ) (owner : Owner) (body : Body) (bounds : Bounds) (held : ℕ)
    (rule : VerifyRule) (at : ℕ) : Type 0 where
  pub states : List Known
  pub first : slice_get states 0 ≡ Some at_first
  pub earlier : (j : ℕ) (placed : Placed) (known : Known) → j < at → slice_get body.instructions j ≡ Some placed →
      slice_get states j ≡ Some known → Walks image x owner body bounds held states j known placed.instruction
  pub placed : Placed
  pub there : slice_get body.instructions at ≡ Some placed
  pub known : Known
  pub known_is : slice_get states at ≡ Some known
  pub before : (r : VerifyRule) → Before r rule → Holds image x owner body bounds held r at known placed.instruction
  pub fails : Holds image x owner body bounds held rule at known placed.instruction → ⊥
