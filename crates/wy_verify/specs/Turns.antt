-- What is tested at an instruction of a site, and what one turn of the walk comes to.
use Rattle.std.specs.Prelude.{◌≡◌, ℕ, suc, ◌+◌, ◌-◌, ◌<◌, ◌≤◌, Bool, true, false, List, [], ◌∷◌, length, take, drop, Option, Some, None, slice_get, slice_index_or, IsTrue, ◌↔◌}
use Rattle.wy_code.specs.declared.code.Literal.{Literal}
use Rattle.wy_code.specs.declared.code.Source.{Source}
use Rattle.wy_code.specs.declared.instruction.Constant.{Constant}
use Rattle.wy_code.specs.declared.instruction.Constant.TheVariants as constant
use Rattle.wy_code.specs.declared.instruction.Operator.{Operator}
use Rattle.wy_code.specs.declared.instruction.Operator.TheVariants as operator
use Rattle.wy_code.specs.declared.instruction.Instruction.{Instruction}
use Rattle.wy_code.specs.declared.instruction.Placed.{Placed}
use Rattle.wy_code.specs.declared.instruction.Instruction.TheVariants.{Push, Load, Get, Op, New, Call, Jump, JumpFalse}
use Rattle.wy_code.specs.Machine.{literal_of}
use Rattle.wy_code.specs.Operations.{operand_count}
use Rattle.wy_image.specs.declared.typing.Target.{Target}
use Rattle.wy_verified.specs.Images.{Image}
use Rattle.wy_verified.specs.Kinds.{methods, kind_in, kinds_in, value_kinds, Fits, AllFit}
use Rattle.wy_verified.specs.declared.known.Kind.{Kind}
use Rattle.wy_verified.specs.declared.known.Kind.TheVariants.{Ints, Truths, Texts, Units, Own, Granted}
use Rattle.wy_verified.specs.Passing.{jumped, set_at, MeetsSet, FlowPasses, Ends}
use Rattle.wy_verified.specs.declared.known.Jumped.{Jumped}
use Rattle.wy_verified.specs.Rules.{at_first, operand_kinds, result_kind, IsCompared, reversed}
use Rattle.wy_verified.specs.declared.known.Known.{Known}
use Rattle.wy_verified.specs.Visiting.{FallsInState, FallsInTypes, here, JumpsInState, JumpsInTypes, falls, VisitsFrom, FailsVisit}
use Rattle.wy_verified.specs.Walking as walking
use Rattle.wy_verified.specs.Walking.{Before, top_kind, target_in, kind_or, result_of, captures_of, fields_of}
use Rattle.wy_verified.specs.declared.known.VerifyRule.{VerifyRule}
use Rattle.wy_verified.specs.declared.known.VerifyRule.TheVariants.{Range, Argument, Flow, State, Depth, Types, Effect}
use Rattle.wy_verify.specs.declared.verdict.Verdict.{Verdict}
use Rattle.wy_verify.specs.declared.verdict.Verdict.TheVariants as verdict
use Rattle.wy_verify.specs.Sites.{Site, IsTested, AreNoted, IsAt, IsNoted}

-- how many operands an instruction pushes
abbrev pub pushed_count : Instruction → ℕ
pushed_count (Push c) = 1
pushed_count (Load s) = 1
pushed_count (Get i) = 1
pushed_count (Op o) = 1
pushed_count (New l) = 1
pushed_count (Call m n) = 1
pushed_count i = 0

-- operands, and one that is pushed onto them or not
abbrev pub with_pushed : Option Kind → List Kind → List Kind
with_pushed None ks = ks
with_pushed (Some k) ks = k ∷ ks

-- what is known once operands are popped
abbrev pub without_top : ℕ → Known → Known
without_top count known = record known { operands = drop count known.operands }

-- the type of a constant
abbrev pub constant_at : Constant → Kind
constant_at (constant.Int n) = Ints
constant_at (constant.Truth b) = Truths
constant_at constant.Unit = Units
constant_at (constant.Text t) = Texts
constant_at (constant.Grant g) = Granted g
constant_at (constant.Instance y) = Own y 0

-- a jump goes to an address below a number
abbrev pub IsInside : ℕ → Instruction → Type 0
IsInside n (Jump to) = to < n
IsInside n (JumpFalse to) = to < n
IsInside n i = Unit {0}

-- the type at a place fits the other there
abbrev pub FitsAt : Image → List Kind → List Kind → ℕ → Type 0
FitsAt image ks ls at =
    (k : Kind) × (l : Kind) × (slice_get ks at ≡ Some k) × (slice_get ls at ≡ Some l) × Fits image k l

-- two operands of one type that can be compared
abbrev pub HasSame : List Kind → Type 0
HasSame ks = (k : Kind) × IsCompared k × (ks ≡ k ∷ k ∷ [])

-- the operands of an operator, the first one first, are of its types
abbrev pub HasOperands : Operator → List Kind → Type 0
HasOperands operator.Equal ks = HasSame ks
HasOperands operator.NotEqual ks = HasSame ks
HasOperands o ks = ks ≡ operand_kinds o Units

module _ (s : Site) where
  -- V-Flow at an instruction
  abbrev pub IsFlow : ℕ → Known → List Jumped → Instruction → Type 0
  IsFlow at known js i = FlowPasses s.image s.x s.owner s.body s.bounds s.held at (jumped i known js) i

  -- an answer says whether V-Flow holds, whatever is known
  abbrev pub TellsFlow : List (Option ℕ) → ℕ → Instruction → Bool → Type 0
  TellsFlow sets at i b = (js : List Jumped) (known : Known) → AreNoted sets js → (IsTrue b ↔ IsFlow at known js i)

  abbrev pub IsForward : ℕ → ℕ → Type 0
  IsForward at to = walking.GoesForward s.image s.x s.owner s.body s.bounds s.held at to

  abbrev pub IsEnd : ℕ → List Jumped → Type 0
  IsEnd at js = Ends s.image s.x s.owner s.body s.bounds s.held at js

  -- a jump stays in the body
  abbrev pub StaysInside : Instruction → Type 0
  StaysInside i = IsInside (length s.body.instructions) i

  ------------------------------------------------------------
  -- V-State

  abbrev pub popped_at : Instruction → ℕ
  popped_at i = walking.popped s.image s.x s.owner s.body s.bounds s.held i

  -- the fields and the captured values of a literal
  abbrev pub fields_at : ℕ → ℕ
  fields_at l = fields_of (literal_of s.image.code s.x l)

  abbrev pub captures_at : ℕ → List Source
  captures_at l = captures_of (literal_of s.image.code s.x l)

  abbrev pub IsMain : Type 0
  IsMain = walking.IsMain s.image s.x s.owner s.body s.bounds s.held

  abbrev pub IsConstant : Constant → Type 0
  IsConstant c = walking.ConstantOk s.image s.x s.owner s.body s.bounds s.held c

  abbrev pub IsReadSource : List ℕ → Source → Type 0
  IsReadSource stored c = walking.SourceOk s.image s.x s.owner s.body s.bounds s.held stored c

  abbrev pub AreReadSources : List ℕ → List Source → Type 0
  AreReadSources stored cs = walking.SourcesOk s.image s.x s.owner s.body s.bounds s.held stored cs

  -- a first body may end
  abbrev pub IsFinished : Known → Type 0
  IsFinished known =
      (s.held + known.set ≡ length (value_kinds s.image s.x 0)) ×
      walking.FinishOk s.image s.x s.owner s.body s.bounds s.held known.operands

  -- the part of V-State that depends on the form of the instruction
  abbrev pub IsInState : Known → Instruction → Type 0
  IsInState known i = walking.InstructionState s.image s.x s.owner s.body s.bounds s.held known i

  -- the target says so much of what is known, once operands are popped
  abbrev pub MeetsTarget : Known → ℕ → Target → Type 0
  MeetsTarget known count t =
      walking.MeetsState s.image s.x s.owner s.body s.bounds s.held (without_top count known) (Some t)

  abbrev pub IsSameSet : ℕ → Option ℕ → Type 0
  IsSameSet set noted = MeetsSet s.image s.x s.owner s.body s.bounds s.held set noted

  -- a jump brings what the target says
  abbrev pub BringsTo : Known → List Jumped → ℕ → ℕ → Type 0
  BringsTo known js count to =
      walking.MeetsState s.image s.x s.owner s.body s.bounds s.held (without_top count known)
      (target_in to s.bounds.targets) × IsSameSet known.set (set_at to js)

  -- V-State at an instruction, apart from what falls in
  abbrev pub IsStateHere : Known → List Jumped → Instruction → Type 0
  IsStateHere known js i =
      (popped_at i ≤ length known.operands) × IsInState known i ×
      JumpsInState s.image s.x s.owner s.body s.bounds s.held known js i

  -- an answer says whether V-State holds at an instruction, apart from what falls in
  abbrev pub TellsState : Known → List (Option ℕ) → Instruction → Bool → Type 0
  TellsState known sets i b = (js : List Jumped) → AreNoted sets js → (IsTrue b ↔ IsStateHere known js i)

  -- the operands are there, and what depends on the form of the instruction holds
  abbrev pub IsReady : Known → Instruction → Type 0
  IsReady known i = (popped_at i ≤ length known.operands) × IsInState known i

  -- V-State of what falls into a target
  abbrev pub FallsIn : Known → Target → Option ℕ → Type 0
  FallsIn known t noted = FallsInState s.image s.x s.owner s.body s.bounds s.held (Some known) (Some t) noted

  ------------------------------------------------------------
  -- V-Depth, V-Type and V-Effect

  abbrev pub IsDepth : Known → Instruction → Type 0
  IsDepth known i = walking.DepthOk s.image s.x s.owner s.body s.bounds s.held known i

  -- the operands of an operator have its types
  abbrev pub IsOperated : Known → Operator → Type 0
  IsOperated known o =
      (k : Kind) × IsCompared k ×
      AllFit s.image (reversed (take (operand_count o) known.operands) []) (operand_kinds o k)

  -- the captured values and the fields of a literal have the types that are stated
  abbrev pub AreMade : List ℕ → List Source → List Kind → List Kind → Type 0
  AreMade stored sources fields kinds =
      walking.SourcesFit s.image s.x s.owner s.body s.bounds s.held stored sources fields kinds

  -- .. those of a literal, by the values' types
  abbrev pub IsMadeOf : Known → Literal → List Kind → Type 0
  IsMadeOf known l kinds = AreMade known.stored l.captures (reversed (take l.fields known.operands) []) kinds

  abbrev pub IsMade : Known → ℕ → Type 0
  IsMade known l =
      AreMade known.stored (captures_at l) (reversed (take (fields_at l) known.operands) [])
      (value_kinds s.image s.x l)

  -- the type of a captured value
  abbrev pub source_of : List ℕ → Source → Kind
  source_of stored source = kind_or (walking.source_kind s.image s.x s.owner s.body s.bounds s.held stored source)

  -- the captured value at a place fits the type there
  abbrev pub SourceFitsAt : List ℕ → List Source → List Kind → ℕ → Type 0
  SourceFitsAt stored sources ks at =
      (c : Source) × (k : Kind) × (slice_get sources at ≡ Some c) × (slice_get ks at ≡ Some k) ×
      Fits s.image (source_of stored c) k

  -- each captured value fits; there may be more types
  abbrev pub AreCaptured : List ℕ → List Source → List Kind → Type 0
  AreCaptured stored [] ks = Unit {0}
  AreCaptured stored (c ∷ cs) [] = ⊥
  AreCaptured stored (c ∷ cs) (k ∷ ks) = Fits s.image (source_of stored c) k × AreCaptured stored cs ks

  -- there is a method, and the arguments fit
  abbrev pub IsCalled : Known → ℕ → ℕ → Type 0
  IsCalled known m n =
      walking.CallTypes s.image s.x s.owner s.body s.bounds s.held (reversed (take n known.operands) [])
      (methods s.image (top_kind (drop n known.operands)) m)

  -- the operands fit those of a target, once operands are popped
  abbrev pub MeetsTargetTypes : Known → ℕ → Target → Type 0
  MeetsTargetTypes known count t =
      walking.MeetsTypes s.image s.x s.owner s.body s.bounds s.held (without_top count known) (Some t)

  -- a jump that is made brings operands of the types of its target
  abbrev pub IsBroughtInTypes : Known → Instruction → Type 0
  IsBroughtInTypes known i = JumpsInTypes s.image s.x s.owner s.body s.bounds s.held known i

  -- the topmost operand fits the slot that is stored into, the field that is set, or the result of the body
  abbrev pub IsStoredInTypes : Known → ℕ → Type 0
  IsStoredInTypes known n =
      Fits s.image (top_kind known.operands)
      (kind_or (slice_get (kinds_in s.x s.bounds.vals) (n - suc s.body.parameters)))

  abbrev pub IsSetInTypes : Known → ℕ → Type 0
  IsSetInTypes known i =
      Fits s.image (top_kind known.operands)
      (kind_or (walking.value_kind s.image s.x s.owner s.body s.bounds s.held i))

  abbrev pub IsReturned : Known → Type 0
  IsReturned known = Fits s.image (top_kind known.operands) (kind_in s.x s.bounds.result)

  -- an operand that is left at the end is a unit
  abbrev pub IsFinishedInTypes : Known → Type 0
  IsFinishedInTypes known = walking.FinishTypes s.image s.x s.owner s.body s.bounds s.held known.operands

  -- the part of V-Type that depends on the form of the instruction
  abbrev pub IsInTypes : Known → Instruction → Type 0
  IsInTypes known i = walking.InstructionTypes s.image s.x s.owner s.body s.bounds s.held known i

  -- a jump brings operands of the types of the target
  abbrev pub BringsTypes : Known → ℕ → ℕ → Type 0
  BringsTypes known count to =
      walking.MeetsTypes s.image s.x s.owner s.body s.bounds s.held (without_top count known)
      (target_in to s.bounds.targets)

  -- V-Type at an instruction, apart from what falls in
  abbrev pub IsTypedHere : Known → Instruction → Type 0
  IsTypedHere known i = IsInTypes known i × JumpsInTypes s.image s.x s.owner s.body s.bounds s.held known i

  abbrev pub IsEffect : Known → Instruction → Type 0
  IsEffect known i = walking.EffectOk s.image s.x s.owner s.body s.bounds s.held known i

  -- the effect of the method that a call finds is within the body's
  abbrev pub IsWithinEffect : Known → ℕ → ℕ → Type 0
  IsWithinEffect known m n =
      walking.MethodEffect s.image s.x s.owner s.body s.bounds s.held
      (methods s.image (top_kind (drop n known.operands)) m)

  ------------------------------------------------------------
  -- The step

  -- the type of the result of the method that a call finds
  abbrev pub result_at : Known → ℕ → ℕ → Kind
  result_at known m n = result_of (methods s.image (top_kind (drop n known.operands)) m)

  -- the slot that is stored into, and the field that is set
  abbrev pub stored_at : Known → Instruction → Known
  stored_at known i = record known {
    stored = walking.stored_after s.image s.x s.owner s.body s.bounds s.held known i;
    set = walking.set_after s.image s.x s.owner s.body s.bounds s.held known i;
  }

  -- the type that an instruction pushes, if it pushes
  abbrev pub pushed_at : Known → Instruction → Option Kind
  pushed_at known (Push c) = Some (constant_at c)
  pushed_at known (Load i) =
      Some (kind_or (walking.slot_kind s.image s.x s.owner s.body s.bounds s.held known.stored i))
  pushed_at known (Get i) = Some (kind_or (walking.value_kind s.image s.x s.owner s.body s.bounds s.held i))
  pushed_at known (Op o) = Some (result_kind o)
  pushed_at known (New l) = Some (Own s.x l)
  pushed_at known (Call m n) = Some (result_at known m n)
  pushed_at known i = None

  -- what is known after an instruction
  abbrev pub after_at : Known → Instruction → Known
  after_at known i = walking.after s.image s.x s.owner s.body s.bounds s.held known i

  abbrev pub FallsAt : Instruction → Type 0
  FallsAt i = walking.FallsThrough s.image s.x s.owner s.body s.bounds s.held i

  abbrev pub here_at : ℕ → Option Known → List Jumped → Option Known
  here_at at o js =
      here s.image s.x s.owner s.body s.bounds s.held o (target_in at s.bounds.targets) (set_at at js)

  -- all rules hold at an instruction, or this is the first that does not
  abbrev pub IsJudged : ℕ → Option Known → Known → List Jumped → Instruction → Option VerifyRule → Type 0
  IsJudged at o known js i None = (r : VerifyRule) → IsTested s r at o known js i
  IsJudged at o known js i (Some rule) =
      ((r : VerifyRule) → Before r rule → IsTested s r at o known js i) × (IsTested s rule at o known js i → ⊥)

-- what a walk has with it: what is known, whether that falls in at the place, and what is noted of jumps
pub record Visit : Type 0 where
  pub known : Known
  pub falls : Bool
  pub jumps : List (Option ℕ)

-- what falls in
abbrev pub falling : Bool → Known → Option Known
falling true known = Some known
falling false known = None

abbrev pub comes : Visit → Option Known
comes v = falling v.falls v.known

-- the number of set fields at a target: that of what falls in, or else that of the latest jump that led there
abbrev pub IsSetAt : Visit → ℕ → ℕ → Type 0
IsSetAt v at n =
    (v.falls ≡ true → n ≡ v.known.set) ×
    (v.falls ≡ false → IsNoted v.jumps at → Some n ≡ slice_index_or v.jumps at None)

module _ (s : Site) where
  -- V-State and V-Type of what falls in
  abbrev pub FallsTo : Option Known → ℕ → List Jumped → Type 0
  FallsTo o at js =
      FallsInState s.image s.x s.owner s.body s.bounds s.held o (target_in at s.bounds.targets) (set_at at js)

  abbrev pub FallsToTypes : Option Known → ℕ → Type 0
  FallsToTypes o at =
      FallsInTypes s.image s.x s.owner s.body s.bounds s.held o (target_in at s.bounds.targets)

  -- an answer says whether V-State holds of what falls in
  abbrev pub TellsFall : Visit → ℕ → Bool → Type 0
  TellsFall v at b = (js : List Jumped) → AreNoted v.jumps js → (IsTrue b ↔ FallsTo (comes v) at js)

  -- where nothing falls in, a jump has led to a target
  abbrev pub HasLed : Visit → ℕ → Type 0
  HasLed v at =
      v.falls ≡ false → ((t : Target) × (target_in at s.bounds.targets ≡ Some t)) ×
      ((n : ℕ) × (slice_index_or v.jumps at None ≡ Some n))

  -- what is known at a place is known now
  pub record IsEntered (old new : Visit) (at : ℕ) : Type 0 where
    pub jumps : new.jumps ≡ old.jumps
    pub falls : new.falls ≡ old.falls
    pub known : (js : List Jumped) → AreNoted old.jumps js → here_at s at (comes old) js ≡ Some new.known

  -- the rules that are tested on what is known, where V-Flow and what falls in are right
  abbrev pub IsRuled : Known → List Jumped → Bool → Instruction → Option VerifyRule → Type 0
  IsRuled known js fits i None =
      IsStateHere s known js i × IsDepth s known i × (fits ≡ true) × IsTypedHere s known i × IsEffect s known i
  IsRuled known js fits i (Some State) = IsStateHere s known js i → ⊥
  IsRuled known js fits i (Some Depth) = IsStateHere s known js i × (IsDepth s known i → ⊥)
  IsRuled known js fits i (Some Types) =
      IsStateHere s known js i × IsDepth s known i × (fits ≡ true → IsTypedHere s known i → ⊥)
  IsRuled known js fits i (Some Effect) =
      IsStateHere s known js i × IsDepth s known i × (fits ≡ true) × IsTypedHere s known i × (IsEffect s known i → ⊥)
  IsRuled known js fits i (Some Range) = ⊥
  IsRuled known js fits i (Some Argument) = ⊥
  IsRuled known js fits i (Some Flow) = ⊥

  abbrev pub IsHereJudged : Visit → Bool → Instruction → Option VerifyRule → Type 0
  IsHereJudged v fits i r = (js : List Jumped) → AreNoted v.jumps js → IsRuled v.known js fits i r

  -- an instruction can be gone on from
  pub record IsGoing (v : Visit) (i : Instruction) : Type 0 where
    pub inside : IsInside (length v.jumps) i
    pub operands : popped_at s i ≤ length v.known.operands

  -- the walk has gone on from an instruction
  pub record HasGone (old new : Visit) (i : Instruction) : Type 0 where
    pub long : length new.jumps ≡ length old.jumps
    pub noted : (js : List Jumped) → AreNoted old.jumps js → AreNoted new.jumps (jumped i old.known js)
    pub falls : comes new ≡ falls s.image s.x s.owner s.body s.bounds s.held old.known i

  -- a turn tests the rules at an instruction, and goes on if all hold
  pub record Turns (old new : Visit) (at : ℕ) (r : Option VerifyRule) (js : List Jumped) (i : Instruction) : Type 0 where
    pub known : Known
    pub here : here_at s at (comes old) js ≡ Some known
    pub judged : IsJudged s at (comes old) known js i r
    pub long : r ≡ None → length new.jumps ≡ length old.jumps
    pub noted : r ≡ None → AreNoted new.jumps (jumped i known js)
    pub falls : r ≡ None → comes new ≡ falls s.image s.x s.owner s.body s.bounds s.held known i

  abbrev pub IsTurn : Visit → Visit → ℕ → Option VerifyRule → Type 0
  IsTurn old new at r =
      (js : List Jumped) (i : Instruction) → AreNoted old.jumps js → IsAt s.body.instructions at i →
      Turns old new at r js i

  -- what a walk comes to from an address on
  abbrev pub VerdictFrom : ℕ → Option Known → List Jumped → List Placed → Verdict → Type 0
  VerdictFrom at o js ps verdict.Passes = VisitsFrom s.image s.x s.owner s.body s.bounds s.held at o js ps
  VerdictFrom at o js ps (verdict.Fails rule place) =
      FailsVisit s.image s.x s.owner s.body s.bounds s.held at o js ps rule place

  abbrev pub IsVerdict : Verdict → Type 0
  IsVerdict v = VerdictFrom 0 (Some at_first) [] s.body.instructions v
