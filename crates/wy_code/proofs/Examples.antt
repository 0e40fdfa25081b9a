-- Code written by hand: what runs, and what is stuck.
use Rattle.std.proofs.Common.{codes, ◌≡◌, ℕ, pos, List, [], ◌∷◌, map, true, false, refl}
use Rattle.wy_text.specs.declared.fault.Place.{Place}
use Rattle.wy_device.specs.Operators.{operate_within}
use Rattle.wy_device.specs.RunEnds.{RunEnd, Ended, Trap, TooDeep, Spent, Wrong}
use Rattle.wy_device.specs.Tapes.{Tapes}
use Rattle.wy_device.specs.Traps.{BadName}
use Rattle.wy_device.specs.declared.deed.Event.{Event}
use Rattle.wy_device.specs.declared.deed.Event.TheVariants.{Enter, Leave}
use Rattle.wy_device.specs.declared.primitive.Primitive.TheVariants.{Folder}
use Rattle.wy_code.specs.declared.instruction.Constant.TheVariants as constant
use Rattle.wy_code.specs.declared.instruction.Operator.TheVariants as operator
use Rattle.wy_code.specs.declared.instruction.Instruction.{Instruction}
use Rattle.wy_code.specs.declared.instruction.Instruction.TheVariants.{Push, Load, Store, Get, Set, Drop, Op, Jump, JumpFalse, New, Call, Return, Finish}
use Rattle.wy_code.specs.declared.code.Code.{Code}
use Rattle.wy_code.specs.declared.code.Source.TheVariants.{Slot}
use Rattle.wy_code.specs.Machine.{step}
use Rattle.wy_code.specs.Running.{Ran, steps, machine}

here : Place
here = record { file = 1; line = 1; column = 1 }

abbrev no_tapes : Tapes
no_tapes = record { console = []; folder = []; clock = []; random = [] }

-- a program with one `val`, one literal that captures it and has one field and a method, and a folder as its grant
abbrev code_with : ℕ → List Instruction → List Instruction → Code
code_with slots run method = record {
  grants = record { name = codes "disk"; primitive = Folder } ∷ [];
  methods = codes "read" ∷ codes "go" ∷ [];
  texts = codes "../x" ∷ [];
  bodies =
      record { name = codes "run"; parameters = 0; vals = 1; slots = slots; instructions = map (λ i. record { instruction = i; place = here }) run } ∷
      record { name = codes "new1.go"; parameters = 1; vals = 0; slots = 4; instructions = map (λ i. record { instruction = i; place = here }) method } ∷ [];
  scopes = record {
    arguments = 1;
    start = 0;
    literals = record { captures = []; fields = 0; methods = [] } ∷ record { captures = Slot 1 ∷ []; fields = 1; methods = record { method = 1; body = 1 } ∷ [] } ∷ [];
  } ∷ [];
  instances = [];
  main = record { name = codes "main"; scope = 0; arguments = [] };
}

abbrev int : ℕ → Instruction
int n = Push (constant.Int (pos n))

-- at most 20 steps, with one call open at once
abbrev ran : Code → Ran
ran code = machine code 1 20 no_tapes

abbrev ends : ℕ → List Instruction → RunEnd
ends slots run = (ran (code_with slots run [])).end

run_entered : Event
run_entered = Enter (codes "main") (codes "run")

-- an object captures a slot; its method adds its argument to its field, and what it captured
calls_are : ran (code_with 5 (int 7 ∷ Store 1 ∷ int 1 ∷ New 1 ∷ int 2 ∷ Call 1 1 ∷ Finish ∷ []) (Get 1 ∷ Load 1 ∷ Op operator.Add ∷ Set 1 ∷ Get 0 ∷ Get 1 ∷ Op operator.Add ∷ Return ∷ []))
    ≡ record { end = Ended; events = run_entered ∷ Enter (codes "main") (codes "new1.go") ∷ Leave ∷ Leave ∷ []; taken = 15 }
unfolding run_entered operate_within step steps machine
calls_are = refl

jumps_are : map (λ b. (ran (code_with 4 (Push (constant.Truth b) ∷ JumpFalse 5 ∷ int 1 ∷ Drop ∷ Jump 6 ∷ Finish ∷ int 1 ∷ Finish ∷ []) [])).taken) (true ∷ false ∷ []) ≡ 7 ∷ 3 ∷ []
unfolding operate_within step steps machine
jumps_are = refl

-- a call on an object is too deep before the method is looked for, and a file's name is bad before the tape is asked
first_causes_are : (ran (code_with 4 (int 1 ∷ New 1 ∷ int 2 ∷ Call 1 1 ∷ []) (Load 0 ∷ int 3 ∷ Call 9 1 ∷ []))).end ∷ ends 4 (Push (constant.Grant 0) ∷ Push (constant.Text 0) ∷ Call 0 1 ∷ []) ∷ []
    ≡ TooDeep ∷ Trap BadName here ∷ []
unfolding operate_within step steps machine
first_causes_are = refl

-- stuck: a missing operand, one more operand than the body has slots for, a value of a wrong kind, a slot, a method,
-- a constant, a captured value and an address that is not there, and a Return where no call is open
stuck_are : ends 4 (Drop ∷ []) ∷ ends 3 (int 1 ∷ int 2 ∷ []) ∷ ends 4 (int 1 ∷ Op operator.Not ∷ []) ∷ ends 4 (int 1 ∷ JumpFalse 0 ∷ []) ∷
    ends 4 (Load 2 ∷ []) ∷ ends 4 (int 1 ∷ Store 2 ∷ []) ∷ ends 4 (Push (constant.Grant 0) ∷ Call 1 0 ∷ []) ∷
    ends 4 (Push (constant.Text 9) ∷ Op operator.Size ∷ []) ∷ ends 4 (Get 0 ∷ []) ∷ ends 4 (Jump 9 ∷ []) ∷ ends 4 (int 1 ∷ Return ∷ []) ∷ ends 4 [] ∷ []
    ≡ Wrong ∷ Wrong ∷ Wrong ∷ Wrong ∷
    Wrong ∷ Wrong ∷ Wrong ∷
    Wrong ∷ Wrong ∷ Wrong ∷ Wrong ∷ Wrong ∷ []
unfolding operate_within step steps machine
stuck_are = refl

-- the last step that a run may take is the one before it is spent
spent_is : machine (code_with 4 (int 1 ∷ Finish ∷ []) []) 1 1 no_tapes ≡ record { end = Spent; events = run_entered ∷ []; taken = 1 }
unfolding run_entered step steps machine
spent_is = refl
