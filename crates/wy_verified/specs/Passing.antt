-- The walk through a body as code does it: by recursion on the instructions, with what is known at the place that it
-- has come to. For each address to which a jump has led, it has the number of set fields.
use Rattle.std.specs.Prelude.{◌≡◌, ◌≢◌, ℕ, suc, ◌<◌, ◌≤◌, List, []}
use Rattle.std.specs.Prelude.{◌∷◌, length, ◌⊎◌, Option, Some, None, nat_eq, if◌then◌else◌}
use Rattle.wy_code.specs.declared.code.Body.{Body}
use Rattle.wy_code.specs.declared.instruction.Instruction.{Instruction}
use Rattle.wy_code.specs.declared.instruction.Instruction.TheVariants.{Jump, JumpFalse, Return, Finish}
use Rattle.wy_code.specs.declared.instruction.Placed.{Placed}
use Rattle.wy_image.specs.declared.typing.Bounds.{Bounds}
use Rattle.wy_image.specs.declared.typing.Target.{Target}
use Rattle.wy_verified.specs.Images.{Image}
pub use Rattle.wy_verified.specs.declared.known.Jumped.{Jumped}
use Rattle.wy_verified.specs.Rules.{Known, Owner, at_first}
use Rattle.wy_verified.specs.Walking.{VerifyRule, Range, Argument, Flow, State, Depth}
use Rattle.wy_verified.specs.Walking.{Types, Effect, Before, target_in, known_at}
use Rattle.wy_verified.specs.Walking.{known_there, after, Leads, GoesForward, IsMethod, IsStart}
use Rattle.wy_verified.specs.Walking.{RangeOk, StateOk, DepthOk, TypesOk, EffectOk}

-- the number of set fields with which a jump first led to an address
abbrev pub set_at : ℕ → List Jumped → Option ℕ
set_at to [] = None
set_at to (j ∷ js) = if nat_eq j.address to then Some j.set else set_at to js

-- the jumps so far, with the one that this instruction makes
abbrev pub jumped : Instruction → Known → List Jumped → List Jumped
jumped (Jump to) known js = record { address = to; set = known.set } ∷ js
jumped (JumpFalse to) known js = record { address = to; set = known.set } ∷ js
jumped i known js = js

module _ (image : Image) (x : ℕ) (owner : Owner) (body : Body) (bounds : Bounds) (held : ℕ) where
  -- the next place is the end, or an earlier jump leads there
  abbrev pub Ends : ℕ → List Jumped → Type 0
  Ends at js = (suc at ≡ length body.instructions) ⊎ ((s : ℕ) × (set_at (suc at) js ≡ Some s))

  -- V-Flow at an instruction
  abbrev pub FlowPasses : ℕ → List Jumped → Instruction → Type 0
  FlowPasses at js (Jump to) = GoesForward image x owner body bounds held at to × Ends at js
  FlowPasses at js (JumpFalse to) =
      GoesForward image x owner body bounds held at to × (suc at < length body.instructions)
  FlowPasses at js Return = IsMethod image x owner body bounds held owner × Ends at js
  FlowPasses at js Finish = IsStart image x owner body bounds held owner × Ends at js
  FlowPasses at js i = suc at < length body.instructions

  -- as many fields are set as where an earlier jump led there
  abbrev pub MeetsSet : ℕ → Option ℕ → Type 0
  MeetsSet set None = Unit {0}
  MeetsSet set (Some s) = set ≡ s

  -- V-State at an instruction
  abbrev pub StatePasses : ℕ → Known → List Jumped → Instruction → Type 0
  StatePasses at known js i =
      StateOk image x owner body bounds held at known i ×
      ((to : ℕ) → Leads image x owner body bounds held at i to →
      MeetsSet (after image x owner body bounds held known i).set (set_at to js))

  -- a rule holds at an instruction
  abbrev pub Passes : VerifyRule → ℕ → Known → List Jumped → Instruction → Type 0
  Passes Range at known js i = RangeOk image x owner body bounds held i
  Passes Argument at known js i = Unit {0}
  Passes Flow at known js i = FlowPasses at (jumped i known js) i
  Passes State at known js i = StatePasses at known js i
  Passes Depth at known js i = DepthOk image x owner body bounds held known i
  Passes Types at known js i = TypesOk image x owner body bounds held at known i
  Passes Effect at known js i = EffectOk image x owner body bounds held known i

  -- what is known at the next place
  abbrev pub at_target : Option Target → Option ℕ → Option Known
  at_target None s = None
  at_target (Some t) None = None
  at_target (Some t) (Some s) = Some (known_at x t s)

  -- what comes to a place, if a target is there or not
  abbrev pub there : Known → Option Target → Option Known
  there known t = Some (known_there image x owner body bounds held t known)

  -- what is known at the next place
  abbrev pub next : ℕ → Known → List Jumped → Instruction → Option Known
  next at known js (Jump to) =
      at_target (target_in (suc at) bounds.targets) (set_at (suc at) (jumped (Jump to) known js))
  next at known js Return = at_target (target_in (suc at) bounds.targets) (set_at (suc at) js)
  next at known js Finish = at_target (target_in (suc at) bounds.targets) (set_at (suc at) js)
  next at known js i = there (after image x owner body bounds held known i) (target_in (suc at) bounds.targets)

  -- all rules hold from an address on
  abbrev pub PassesFrom : ℕ → Option Known → List Jumped → List Placed → Type 0
  PassesFrom at o js [] = Unit {0}
  PassesFrom at None js (p ∷ ps) = ⊥
  PassesFrom at (Some known) js (p ∷ ps) =
      ((r : VerifyRule) → Passes r at known js p.instruction) ×
      PassesFrom (suc at) (next at known js p.instruction) (jumped p.instruction known js) ps

  -- .. or this is the first one that does not
  abbrev pub FailsFrom : ℕ → Option Known → List Jumped → List Placed → VerifyRule → ℕ → Type 0
  FailsFrom at o js [] rule place = ⊥
  FailsFrom at None js (p ∷ ps) rule place = ⊥
  FailsFrom at (Some known) js (p ∷ ps) rule place =
      ((place ≡ at) × ((r : VerifyRule) → Before r rule → Passes r at known js p.instruction) ×
      (Passes rule at known js p.instruction → ⊥)) ⊎
      (((r : VerifyRule) → Passes r at known js p.instruction) ×
      FailsFrom (suc at) (next at known js p.instruction) (jumped p.instruction known js) ps rule place)

-- a body that the walk passes; one without instructions fails V-Flow at 0
pub record BodyPasses (image : Image) (x : ℕ) (owner : Owner) (body : Body) (bounds : Bounds) (held : ℕ) : Type 0 where
  pub name : body.name ≡ bounds.name
  pub parameters : length bounds.parameters ≡ body.parameters
  pub vals : body.vals ≤ length bounds.vals
  pub some : body.instructions ≢ []
  pub all : PassesFrom image x owner body bounds held 0 (Some at_first) [] body.instructions
