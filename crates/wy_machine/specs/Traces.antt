-- What a traced run writes besides what it does. (docs/LANGUAGE.md, "Events")
use Rattle.std.specs.Prelude.{◌≡◌, ℕ, ◌≤◌, ◌<◌, List, ◌∷◌, ◌++◌, ◌⊎◌, length, Result, Ok, Err}
use Rattle.wy_text.specs.Outside.{SinkState, gained, Rose}
use Rattle.wy_device.specs.declared.deed.Event.{Event}
use Rattle.wy_device.specs.Devices.{DevicesState}
use Rattle.wy_device.specs.Events.{DidExactly}
use Rattle.wy_device.specs.RunEnds as ends
use Rattle.wy_meaning.specs.EventLines.{event_line, event_lines}
use Rattle.wy_code.specs.declared.code.Code.{Code}
use Rattle.wy_machine.specs.declared.run_end.RunEnd.{RunEnd}
use Rattle.wy_machine.specs.declared.run_end.RunEnd.TheVariants.{Ended, Trap, TooDeep, Spent, DeviceFailed, SinkFailed, Memory}
use Rattle.wy_machine.specs.Runs.{RunsTo, EndsIn, AreSameDevices, FailsByFault}
use Rattle.wy_machine.specs.Steps.{AreQuiet}

-- the lines of the events were written, each whole
abbrev pub WroteAll : List Event → SinkState → SinkState → Type 0
WroteAll events out out' = out'.taken ≡ gained out.taken (event_lines events)

-- the lines of the first events were written whole, and of the next one a part that is not the whole; no event after
-- that one is a deed
pub record WroteSome (events : List Event) (out out' : SinkState) : Type 0 where
  pub whole : List Event
  pub event : Event
  pub later : List Event
  pub split : events ≡ whole ++ (event ∷ later)
  pub quiet : AreQuiet later
  pub part : List ℕ
  pub cut : List ℕ
  pub line : event_line event ≡ part ++ cut
  pub short : 0 < length cut
  pub taken : out'.taken ≡ gained out.taken (event_lines whole ++ part)

-- some number of steps of the code, at most k, has these events
pub record HappenedIn (code : Code) (depth k : ℕ) (events : List Event) : Type 0 where
  pub steps : ℕ
  pub few : steps ≤ k
  pub end : ends.RunEnd
  pub runs : RunsTo code depth steps events end

-- where the sink failed or memory was wanting, the run stopped at some step, and the lines may lack from one event on
abbrev pub EndsTraced : Code → ℕ → ℕ → List Event → SinkState → SinkState → RunEnd → Type 0
EndsTraced code depth k events out out' Ended = EndsIn code depth k events Ended × WroteAll events out out'
EndsTraced code depth k events out out' (Trap kind place) = EndsIn code depth k events (Trap kind place) × WroteAll events out out'
EndsTraced code depth k events out out' TooDeep = EndsIn code depth k events TooDeep × WroteAll events out out'
EndsTraced code depth k events out out' Spent = EndsIn code depth k events Spent × WroteAll events out out'
EndsTraced code depth k events out out' (DeviceFailed grant op) = EndsIn code depth k events (DeviceFailed grant op) × WroteAll events out out'
EndsTraced code depth k events out out' SinkFailed = HappenedIn code depth k events × WroteSome events out out' × Rose out.faults out'.faults
EndsTraced code depth k events out out' Memory = HappenedIn code depth k events × (WroteAll events out out' ⊎ WroteSome events out out')

-- a run of the code, of at most k steps, took the devices and the sink from one state to another and ended so: there
-- are events that the devices' new deeds and the sink's new lines are, and the code has them and ends so over what the
-- devices answered
pub record RunsTraced (code : Code) (depth k : ℕ) (old new : DevicesState) (out out' : SinkState) (end : RunEnd) : Type 0 where
  pub events : List Event
  pub did : DidExactly old new events
  pub ends : EndsTraced code depth k events out out' end
  pub same : AreSameDevices old new
  pub failed : FailsByFault old new end
  pub counted : out.faults ≤ out'.faults

------------------------------------------------------------
-- Writes

-- what a write of the events' lines came to
abbrev pub Wrote : List Event → SinkState → SinkState → Result (Unit {0}) RunEnd → Type 0
Wrote events out out' (Ok u) = WroteAll events out out'
Wrote events out out' (Err SinkFailed) = WroteSome events out out' × Rose out.faults out'.faults
Wrote events out out' (Err Memory) = WroteSome events out out'
Wrote events out out' (Err Ended) = ⊥
Wrote events out out' (Err (Trap kind place)) = ⊥
Wrote events out out' (Err TooDeep) = ⊥
Wrote events out out' (Err Spent) = ⊥
Wrote events out out' (Err (DeviceFailed grant op)) = ⊥
