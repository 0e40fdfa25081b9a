-- What a step of the machine does. (docs/LANGUAGE.md, "Code", "Causes in one step")
use Rattle.std.specs.Prelude.{◌≡◌, ◌≢◌, ℕ, Bool, true, false, List, [], Result, Ok, Err, ⊤}
use Rattle.wy_device.specs.declared.deed.Event.{Event}
use Rattle.wy_device.specs.Devices.{DevicesState}
use Rattle.wy_device.specs.Events.{DidExactly, deeds_of}
use Rattle.wy_device.specs.declared.operation.Kind.{Kind}
use Rattle.wy_device.specs.RunEnds as ends
use Rattle.wy_device.specs.Tapes.{Tapes, spliced}
use Rattle.wy_code.specs.declared.code.Code.{Code}
use Rattle.wy_text.specs.declared.fault.Place.{Place}
use Rattle.wy_code.specs.declared.instruction.Instruction.{Instruction}
use Rattle.wy_code.specs.Machine.{Next, Go, Halt, stuck, act, step, begin_next}
use Rattle.wy_code.specs.Running.{store_at_first}
use Rattle.wy_machine.specs.declared.run_end.RunEnd.{RunEnd}
use Rattle.wy_machine.specs.declared.run_end.RunEnd.TheVariants.{Ended, Trap, TooDeep, Spent, DeviceFailed, SinkFailed, Memory}
use Rattle.wy_machine.specs.Runs.{tapes_of, AreSameDevices, FailsByFault}
use Rattle.wy_machine.specs.OpenBodies.{StackState}
use Rattle.wy_machine.specs.States.{store_of, state_of}
use Rattle.wy_machine.specs.StoreState.{StoreState}
use Rattle.wy_machine.specs.TrapKinds.{trap_meant}

-- what an instruction does, by the answers to come
abbrev pub acting : Code → ℕ → Place → StackState → StoreState → Instruction → Tapes → Next
acting code depth place s w instruction tapes = act code depth place instruction (state_of code s w tapes)

-- the step that comes next
abbrev pub stepping : Code → ℕ → StackState → StoreState → Tapes → Next
stepping code depth s w tapes = step code depth (state_of code s w tapes)

-- what starts next, after these events
abbrev pub beginning : Code → List Event → StoreState → Tapes → Next
beginning code events w tapes = begin_next code events (store_of code w tapes)

-- what starts first
abbrev pub starting : Code → Tapes → Next
starting code tapes = begin_next code [] (store_at_first code tapes)

-- no deed is among the events
pub record AreQuiet (events : List Event) : Type 0 where
  pub none : (kind : Kind) → deeds_of kind events ≡ []

-- whatever the answers to come are, the step is no stuck one
pub record IsNotStuck (next : Tapes → Next) : Type 0 where
  pub holds : (tapes : Tapes) → next tapes ≢ stuck

-- with what the devices answered in these events, the step goes on so, whatever they answer after them
pub record GoesOn (code : Code) (s : StackState) (w : StoreState) (events : List Event) (next : Tapes → Next) : Type 0 where
  pub goes : (more : Tapes) → next (spliced (tapes_of events) more) ≡ Go events (state_of code s w more)

-- or it ends the run
pub record Halts (events : List Event) (next : Tapes → Next) (end : ends.RunEnd) : Type 0 where
  pub halts : (more : Tapes) → next (spliced (tapes_of events) more) ≡ Halt end events

-- where memory was wanting nothing was done
abbrev pub StopsIn : List Event → (Tapes → Next) → RunEnd → Type 0
StopsIn events next Ended = Halts events next ends.Ended
StopsIn events next (Trap kind place) = Halts events next (ends.Trap (trap_meant kind) place)
StopsIn events next TooDeep = Halts events next ends.TooDeep
StopsIn events next Spent = ⊥
StopsIn events next (DeviceFailed grant op) = Halts events next (ends.DeviceFailed grant op)
StopsIn events next SinkFailed = ⊥
StopsIn events next Memory = events ≡ []

abbrev pub Comes : Code → StackState → StoreState → List Event → (Tapes → Next) → Result (Unit {0}) RunEnd → Type 0
Comes code s w events next (Ok u) = GoesOn code s w events next
Comes code s w events next (Err end) = StopsIn events next end

abbrev pub StopsByFault : DevicesState → DevicesState → Result (Unit {0}) RunEnd → Type 0
StopsByFault old new (Ok u) = ⊤
StopsByFault old new (Err end) = FailsByFault old new end

-- how a step came out: it went on, or it ended the run so
abbrev pub outcome : Bool → RunEnd → Result (Unit {0}) RunEnd
outcome true end = Ok tt
outcome false end = Err end

-- a step took the devices from one state to another and came to a stack and a store, or to an end of the run
pub record IsStep (code : Code) (s : StackState) (w : StoreState) (next : Tapes → Next) (old new : DevicesState) (result : Result (Unit {0}) RunEnd) : Type 0 where
  pub events : List Event
  pub did : DidExactly old new events
  pub comes : Comes code s w events next result
  pub same : AreSameDevices old new
  pub failed : StopsByFault old new result
