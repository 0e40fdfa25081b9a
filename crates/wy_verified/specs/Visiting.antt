-- The walk through a body, with each test at its place: what falls into a target is tested at the target, and what a
-- jump brings there is tested at the jump.
use Rattle.std.specs.Prelude.{◌≡◌, ℕ, suc, ◌≤◌, List, [], ◌∷◌, length, ◌⊎◌, Option, Some, None}
use Rattle.wy_code.specs.declared.code.Body.{Body}
use Rattle.wy_code.specs.declared.instruction.Instruction.{Instruction}
use Rattle.wy_code.specs.declared.instruction.Instruction.TheVariants.{Jump, Return, Finish}
use Rattle.wy_code.specs.declared.instruction.Placed.{Placed}
use Rattle.wy_image.specs.declared.typing.Bounds.{Bounds}
use Rattle.wy_image.specs.declared.typing.Target.{Target}
use Rattle.wy_verified.specs.Images.{Image}
use Rattle.wy_verified.specs.Rules.{Known, Owner}
use Rattle.wy_verified.specs.Walking.{VerifyRule, Range, Argument, Flow, State, Depth, Types}
use Rattle.wy_verified.specs.Walking.{Effect, Before, target_in, known_at, after, popped, JumpsTo}
use Rattle.wy_verified.specs.Walking.{MeetsState, MeetsTypes, InstructionState, InstructionTypes}
use Rattle.wy_verified.specs.Walking.{RangeOk, DepthOk, EffectOk}
use Rattle.wy_verified.specs.Passing.{Jumped, set_at, jumped, MeetsSet, FlowPasses, at_target}

module _ (image : Image) (x : ℕ) (owner : Owner) (body : Body) (bounds : Bounds) (held : ℕ) where
  -- what falls into a target has what the target says, and as many fields set as where a jump led there
  abbrev pub FallsInState : Option Known → Option Target → Option ℕ → Type 0
  FallsInState None t s = Unit {0}
  FallsInState (Some known) None s = Unit {0}
  FallsInState (Some known) (Some t) s =
      MeetsState image x owner body bounds held known (Some t) × MeetsSet image x owner body bounds held known.set s

  -- .. and operands of its types
  abbrev pub FallsInTypes : Option Known → Option Target → Type 0
  FallsInTypes None t = Unit {0}
  FallsInTypes (Some known) None = Unit {0}
  FallsInTypes (Some known) (Some t) = MeetsTypes image x owner body bounds held known (Some t)

  -- what is known at a place: what the target there says, else what falls in
  abbrev pub here : Option Known → Option Target → Option ℕ → Option Known
  here None t s = at_target image x owner body bounds held t s
  here (Some known) None s = Some known
  here (Some known) (Some t) s = Some (known_at x t known.set)

  -- what a jump brings to a target
  abbrev pub JumpsInState : Known → List Jumped → Instruction → Type 0
  JumpsInState known js i =
      (to : ℕ) → JumpsTo image x owner body bounds held i to →
      MeetsState image x owner body bounds held (after image x owner body bounds held known i)
      (target_in to bounds.targets) ×
      MeetsSet image x owner body bounds held (after image x owner body bounds held known i).set (set_at to js)

  -- .. and the types of operands
  abbrev pub JumpsInTypes : Known → Instruction → Type 0
  JumpsInTypes known i =
      (to : ℕ) → JumpsTo image x owner body bounds held i to →
      MeetsTypes image x owner body bounds held (after image x owner body bounds held known i)
      (target_in to bounds.targets)

  -- a rule holds at an instruction
  abbrev pub Tests : VerifyRule → ℕ → Option Known → Known → List Jumped → Instruction → Type 0
  Tests Range at o known js i = RangeOk image x owner body bounds held i
  Tests Argument at o known js i = Unit {0}
  Tests Flow at o known js i = FlowPasses image x owner body bounds held at (jumped i known js) i
  Tests State at o known js i =
      FallsInState o (target_in at bounds.targets) (set_at at js) ×
      (popped image x owner body bounds held i ≤ length known.operands) ×
      InstructionState image x owner body bounds held known i × JumpsInState known js i
  Tests Depth at o known js i = DepthOk image x owner body bounds held known i
  Tests Types at o known js i =
      FallsInTypes o (target_in at bounds.targets) × InstructionTypes image x owner body bounds held known i ×
      JumpsInTypes known i
  Tests Effect at o known js i = EffectOk image x owner body bounds held known i

  -- what falls to the next place
  abbrev pub falls : Known → Instruction → Option Known
  falls known (Jump to) = None
  falls known Return = None
  falls known Finish = None
  falls known i = Some (after image x owner body bounds held known i)

  -- all tests hold from an address on, where something falls in or not
  abbrev pub VisitsFrom : ℕ → Option Known → List Jumped → List Placed → Type 0
  VisitsFrom at o js [] = Unit {0}
  VisitsFrom at o js (p ∷ ps) =
      (known : Known) × (here o (target_in at bounds.targets) (set_at at js) ≡ Some known) ×
      ((r : VerifyRule) → Tests r at o known js p.instruction) ×
      VisitsFrom (suc at) (falls known p.instruction) (jumped p.instruction known js) ps

  -- .. or this is the first that does not
  abbrev pub FailsVisit : ℕ → Option Known → List Jumped → List Placed → VerifyRule → ℕ → Type 0
  FailsVisit at o js [] rule place = ⊥
  FailsVisit at o js (p ∷ ps) rule place =
      (known : Known) × (here o (target_in at bounds.targets) (set_at at js) ≡ Some known) ×
      (((place ≡ at) × ((r : VerifyRule) → Before r rule → Tests r at o known js p.instruction) ×
      (Tests rule at o known js p.instruction → ⊥)) ⊎
      (((r : VerifyRule) → Tests r at o known js p.instruction) ×
      FailsVisit (suc at) (falls known p.instruction) (jumped p.instruction known js) ps rule place))
