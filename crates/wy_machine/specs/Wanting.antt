-- Which instructions take memory, and where a run comes to one. (docs/LANGUAGE.md, "Code", "How a run ends")
use Rattle.std.specs.Prelude.{◌≡◌, ◌≢◌, ℕ, zero, suc, Bool, true, false, List, [], ◌∷◌, Option, Some, None, Result, Ok, Err, ⊤, slice_get, drop}
use Rattle.wy_text.specs.declared.fault.Place.{Place}
use Rattle.wy_device.specs.RunEnds as ends
use Rattle.wy_device.specs.Tapes.{Tapes}
use Rattle.wy_device.specs.Traps as traps
use Rattle.wy_code.specs.declared.code.Code.{Code}
use Rattle.wy_code.specs.declared.instruction.Instruction.{Instruction}
use Rattle.wy_code.specs.declared.instruction.Instruction.TheVariants.{Op, New, Call}
use Rattle.wy_code.specs.declared.instruction.Operator.{Operator}
use Rattle.wy_code.specs.declared.instruction.Operator.TheVariants.{Join, Part, Byte, Show}
use Rattle.wy_code.specs.declared.instruction.Placed.{Placed}
use Rattle.wy_code.specs.Machine.{State, Next, Go, Halt, step, begin_next}
use Rattle.wy_code.specs.Running.{store_at_first}
use Rattle.wy_code.specs.Stores.{Word, Grant}
use Rattle.wy_machine.specs.declared.run_end.RunEnd.{RunEnd}
use Rattle.wy_machine.specs.declared.run_end.RunEnd.TheVariants.{Ended, Trap, TooDeep, Spent, DeviceFailed, SinkFailed, Memory}
use Rattle.wy_machine.specs.OpenBodies.{StackState}
use Rattle.wy_machine.specs.States.{body_at}

------------------------------------------------------------
-- Instructions

-- the operators that build a text
abbrev pub builds_text : Operator → Bool
builds_text Join = true
builds_text Part = true
builds_text Byte = true
builds_text Show = true
builds_text _ = false

abbrev pub is_grant : Option Word → Bool
is_grant (Some (Grant g)) = true
is_grant _ = false

-- `New`, the operators that build a text, and a call on a grant, with these operands, the topmost first
abbrev pub takes_memory : Instruction → List Word → Bool
takes_memory (New l) operands = true
takes_memory (Op operator) operands = builds_text operator
takes_memory (Call m k) operands = is_grant (slice_get operands k)
takes_memory _ operands = false

abbrev pub first_takes : List Placed → List Word → Bool
first_takes [] operands = false
first_takes (i ∷ is) operands = takes_memory i.instruction operands

-- the instruction that comes next takes memory
abbrev pub next_takes : Code → StackState → Bool
next_takes code s = first_takes (drop s.running.at (body_at code s.running.body).instructions) s.running.operands

-- memory is wanting only where it is taken
abbrev pub WantsOnly : Bool → Result (Unit {0}) RunEnd → Type 0
WantsOnly taken (Ok u) = ⊤
WantsOnly taken (Err Ended) = ⊤
WantsOnly taken (Err (Trap kind place)) = ⊤
WantsOnly taken (Err TooDeep) = ⊤
WantsOnly taken (Err Spent) = ⊤
WantsOnly taken (Err (DeviceFailed grant op)) = ⊤
WantsOnly taken (Err SinkFailed) = ⊤
WantsOnly taken (Err Memory) = taken ≡ true

-- .. and where it is, whatever the answers to come are, no trap comes first
abbrev pub TrapsFirst : (Tapes → Next) → Result (Unit {0}) RunEnd → Type 0
TrapsFirst next (Err Memory) = (tapes : Tapes) (kind : traps.TrapKind) (place : Place) → next tapes ≢ Halt (ends.Trap kind place) []
TrapsFirst next _ = ⊤

------------------------------------------------------------
-- Runs

abbrev pub goes_to : Next → (State → Option State) → Option State
goes_to (Go es s) rest = rest s
goes_to (Halt e es) rest = None

-- the state after k steps, where a run takes as many
unfoldable pub state_after : Code → ℕ → ℕ → State → Option State
state_after code n zero s = Some s
state_after code n (suc k) s = goes_to (step code n s) (state_after code n k)

-- the state that a run of the code comes to in k steps
abbrev pub state_reached : Code → ℕ → ℕ → Tapes → Option State
state_reached code n k tapes = goes_to (begin_next code [] (store_at_first code tapes)) (state_after code n k)

abbrev pub IsTaking : Option State → Type 0
IsTaking None = ⊥
IsTaking (Some s) = first_takes s.frame.rest s.frame.operands ≡ true

-- after k steps the code comes to an instruction that takes memory, whatever the devices answer from there on
pub record TakesMemory (code : Code) (depth k : ℕ) (tapes : Tapes → Tapes) : Type 0 where
  pub takes : (more : Tapes) → IsTaking (state_reached code depth k (tapes more))
