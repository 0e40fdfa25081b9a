-- What a run of the machine does. (docs/LANGUAGE.md, "Code", "How a run ends")
use Rattle.std.specs.Prelude.{◌≡◌, ℕ, ◌≤◌, List, [], Some, None, Result, Err, IfOk, ⊤}
use Rattle.wy_text.specs.Outside.{Rose}
use Rattle.wy_device.specs.declared.deed.Event.{Event}
use Rattle.wy_device.specs.declared.operation.Kind.TheVariants.{Console, Folder, Clock, Random}
use Rattle.wy_device.specs.declared.operation.Answer.{Answer}
use Rattle.wy_device.specs.declared.operation.Op.{Op}
use Rattle.wy_device.specs.declared.device.DeviceError.{DeviceError}
use Rattle.wy_device.specs.declared.device.DeviceError.TheVariants as device_error
use Rattle.wy_device.specs.Device.{IsAnswerOf}
use Rattle.wy_device.specs.DeviceState.{DeviceState}
use Rattle.wy_device.specs.Devices.{DevicesState, device_of}
use Rattle.wy_device.specs.Events.{deeds_of, DidExactly}
use Rattle.wy_device.specs.Operation.{kind_named, kind_of}
use Rattle.wy_device.specs.RunEnds as ends
use Rattle.wy_device.specs.Tapes.{Tapes, spliced, answers}
use Rattle.wy_code.specs.declared.code.Code.{Code}
use Rattle.wy_code.specs.Operations.{deed_event}
use Rattle.wy_code.specs.Running.{machine}
use Rattle.wy_machine.specs.declared.run_end.RunEnd.{RunEnd}
use Rattle.wy_machine.specs.declared.run_end.RunEnd.TheVariants.{Ended, Trap, TooDeep, Spent, DeviceFailed, SinkFailed, Memory}
use Rattle.wy_machine.specs.TrapKinds.{trap_meant}
use Rattle.wy_machine.specs.Wanting.{TakesMemory}

-- the code that runs, and how many calls on objects may be open at once
pub record ImageState : Type 0 where
  pub code : Code
  pub depth : ℕ

-- what the devices answered in these events
abbrev pub tapes_of : List Event → Tapes
tapes_of events = record {
  console = answers (deeds_of Console events);
  folder = answers (deeds_of Folder events);
  clock = answers (deeds_of Clock events);
  random = answers (deeds_of Random events);
}

-- at most k steps of the code end so and have these events, whatever the devices answer after them
pub record RunsTo (code : Code) (depth k : ℕ) (events : List Event) (end : ends.RunEnd) : Type 0 where
  pub ends : (more : Tapes) → (machine code depth k (spliced (tapes_of events) more)).end ≡ end
  pub tells : (more : Tapes) → (machine code depth k (spliced (tapes_of events) more)).events ≡ events

-- a run that memory was wanting for did what fewer steps of the code do, and came to an instruction that takes memory:
-- a run that comes to none is never without it; and no sink is written to
abbrev pub EndsIn : Code → ℕ → ℕ → List Event → RunEnd → Type 0
EndsIn code depth k events Ended = RunsTo code depth k events ends.Ended
EndsIn code depth k events (Trap kind place) = RunsTo code depth k events (ends.Trap (trap_meant kind) place)
EndsIn code depth k events TooDeep = RunsTo code depth k events ends.TooDeep
EndsIn code depth k events Spent = RunsTo code depth k events ends.Spent
EndsIn code depth k events (DeviceFailed grant op) = RunsTo code depth k events (ends.DeviceFailed grant op)
EndsIn code depth k events SinkFailed = ⊥
EndsIn code depth k events Memory = (j : ℕ) × (j ≤ k) × RunsTo code depth j events ends.Spent × TakesMemory code depth j (spliced (tapes_of events))

-- a device is of the same kind, and its count of faults did not fall
pub record IsSameDevice (old new : DeviceState) : Type 0 where
  pub kind : new.kind ≡ old.kind
  pub counted : old.faults ≤ new.faults

pub record AreSameDevices (old new : DevicesState) : Type 0 where
  pub console : IsSameDevice old.console new.console
  pub folder : IsSameDevice old.folder new.folder
  pub clock : IsSameDevice old.clock new.clock
  pub random : IsSameDevice old.random new.random

-- an operation was asked of the device of its kind for a grant, and no other device was asked: its deed is done where it was
-- answered or failed, and none where memory was wanting
pub record IsAsked (old new : DevicesState) (grant : List ℕ) (op : Op) (result : Result Answer DeviceError) : Type 0 where
  pub same : AreSameDevices old new
  pub answer : IfOk result (IsAnswerOf op)
  pub done : IfOk result (λ answer. DidExactly old new (deed_event grant op (Some answer)))
  pub bad : result ≡ Err device_error.Failed → DidExactly old new (deed_event grant op None)
  pub none : result ≡ Err device_error.Memory → DidExactly old new []
  pub failed : result ≡ Err device_error.Failed → Rose (device_of old (kind_of op)).faults (device_of new (kind_of op)).faults

-- where an operation failed, its device counted a fault
abbrev pub FailsByFault : DevicesState → DevicesState → RunEnd → Type 0
FailsByFault old new (DeviceFailed grant op) = Rose (device_of old (kind_named op)).faults (device_of new (kind_named op)).faults
FailsByFault old new Ended = ⊤
FailsByFault old new (Trap kind place) = ⊤
FailsByFault old new TooDeep = ⊤
FailsByFault old new Spent = ⊤
FailsByFault old new SinkFailed = ⊤
FailsByFault old new Memory = ⊤

-- a run of the code, of at most k steps, took the devices from one state to another and ended so: there are events
-- that the devices' new deeds are, and the code has them and ends so over what the devices answered
pub record Runs (code : Code) (depth k : ℕ) (old new : DevicesState) (end : RunEnd) : Type 0 where
  pub events : List Event
  pub did : DidExactly old new events
  pub ends : EndsIn code depth k events end
  pub same : AreSameDevices old new
  pub failed : FailsByFault old new end
