-- What the machine's state is to the definition of a step.
use Rattle.std.specs.Prelude.{ℕ, [], ◌++◌, length, drop, map, Option, Some, None, slice_get}
use Rattle.wy_device.specs.Tapes.{Tapes}
use Rattle.wy_code.specs.declared.code.Body.{Body}
use Rattle.wy_code.specs.declared.code.Code.{Code}
use Rattle.wy_code.specs.Stores.{Store}
use Rattle.wy_code.specs.Machine.{Frame, State}
use Rattle.wy_machine.specs.OpenBodies.{OpenBody, StackState}
use Rattle.wy_machine.specs.StoreState.{StoreState}

abbrev pub no_body : Body
no_body = record { name = []; parameters = 0; vals = 0; slots = 0; instructions = [] }

abbrev pub body_or_none : Option Body → Body
body_or_none None = no_body
body_or_none (Some b) = b

-- a body by its number
abbrev pub body_at : Code → ℕ → Body
body_at code b = body_or_none (slice_get code.bodies b)

abbrev pub frame_of : Code → OpenBody → Frame
frame_of code b = record {
  instance = b.instance;
  body = body_at code b.body;
  rest = drop b.at (body_at code b.body).instructions;
  slots = b.slots;
  operands = b.operands;
}

-- the code's texts come first
abbrev pub store_of : Code → StoreState → Tapes → Store
store_of code w tapes = record { objects = w.objects; made = w.made; texts = code.texts ++ w.texts; built = length w.texts; tapes = tapes; next = w.next }

-- the state, where these are the answers to come
abbrev pub state_of : Code → StackState → StoreState → Tapes → State
state_of code s w tapes = record { frame = frame_of code s.running; callers = map (frame_of code) s.callers; store = store_of code w tapes }
