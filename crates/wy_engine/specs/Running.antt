-- What running a program does, step by step.
use Rattle.std.specs.Prelude.{◌≡◌, ◌≢◌, ◌⊎◌, ℕ, List, []}
use Rattle.wy_text.specs.Outside.{Rose, SinkState}
use Rattle.wy_text.specs.Writing.{StopsShort, WritesUpTo}
use Rattle.wy_device.specs.Devices.{DevicesState}
use Rattle.wy_device.specs.declared.deed.Event.{Event}
use Rattle.wy_types.specs.Program.{Program}
use Rattle.wy_code.specs.declared.code.Code.{Code}
use Rattle.wy_lower.specs.Lowering.{lowered}
use Rattle.wy_machine.specs.Runs.{Runs}
use Rattle.wy_machine.specs.Traces.{RunsTraced}
use Rattle.wy_machine.specs.declared.run_end.RunEnd.{RunEnd}
use Rattle.wy_machine.specs.declared.run_end.RunEnd.TheVariants as end
use Rattle.wy_sound.specs.Programs.{program_starts}
use Rattle.wy_engine.specs.Judgement.{authority_text, observed_text, summary_text}
use Rattle.wy_engine.specs.Writing.{Wrote}
use Rattle.wy_engine.specs.declared.running.Mode.{Mode}
use Rattle.wy_engine.specs.declared.running.Mode.TheVariants as mode
use Rattle.wy_engine.specs.declared.status.Status.{Status}
use Rattle.wy_engine.specs.declared.status.Status.TheVariants as status

-- the status of a run's end
abbrev pub status_of : RunEnd → Status
status_of end.Ended = status.Ended
status_of (end.Trap kind place) = status.Trap kind place
status_of end.TooDeep = status.TooDeep
status_of end.Spent = status.Spent
status_of (end.DeviceFailed grant op) = status.DeviceFailed grant op
status_of end.SinkFailed = status.Unwritten
status_of end.Memory = status.Memory

-- code was run, and the status says how that ended
pub record RunsCode (code : Code) (depth steps : ℕ) (devices devices' : DevicesState) (end : Status) : Type 0 where
  pub ended : RunEnd
  pub runs : Runs code depth steps devices devices' ended
  pub says : end ≡ status_of ended

-- .. and the line of each of its events was written to `out`
pub record TracesCode (code : Code) (depth steps : ℕ) (out out' : SinkState) (devices devices' : DevicesState) (end : Status) : Type 0 where
  pub ended : RunEnd
  pub runs : RunsTraced code depth steps devices devices' out out' ended
  pub says : end ≡ status_of ended

-- what came to `out` behind a run that ended so: a text, where it ended well, and else nothing
pub data ThenWrote (text : List ℕ) (out out' : SinkState) (ended : RunEnd) (says : Status) : Type 0 where
  summed : ended ≡ end.Ended → Wrote text out out' says → ThenWrote text out out' ended says
  skipped : ended ≢ end.Ended → out' ≡ out → says ≡ status_of ended → ThenWrote text out out' ended says

-- code was run, and a text was written to `out` where it ended well
pub record SumsCode (text : List ℕ) (code : Code) (depth steps : ℕ) (out out' : SinkState) (devices devices' : DevicesState) (end : Status) : Type 0 where
  pub ended : RunEnd
  pub runs : Runs code depth steps devices devices' ended
  pub wrote : ThenWrote text out out' ended end

-- the status of a run that ended so, behind which a write to `out` came to this status
abbrev pub behind : Status → RunEnd → Status
behind status.Ended run = status_of run
behind wrote run = wrote

-- what came to `out` behind a run that is observed and ended so: a text, unless memory was wanting for the run or the text
pub data ThenObserved (text : List ℕ) (out out' : SinkState) (ended : RunEnd) (says : Status) : Type 0 where
  unobserved : says ≡ status.Memory → out' ≡ out → ThenObserved text out out' ended says
  observed : ended ≢ end.Memory → (wrote : Status) → Wrote text out out' wrote → says ≡ behind wrote ended → ThenObserved text out out' ended says

-- code was run, and the text of its events was written to `out`; or memory was wanting before it began
pub data ObservesCode (text : List Event → List ℕ) (code : Code) (depth steps : ℕ) (out out' : SinkState) (devices devices' : DevicesState) (end : Status) : Type 0 where
  unbegun : end ≡ status.Memory → out' ≡ out → devices' ≡ devices → ObservesCode text code depth steps out out' devices devices' end
  begun : (ended : RunEnd) (runs : Runs code depth steps devices devices' ended) → ThenObserved (text runs.events) out out' ended end
      → ObservesCode text code depth steps out out' devices devices' end

-- Code was run and nothing was written to `out`; or it was traced; or a text that sums the run up was written to `out` where
-- it ended well; or the text of its events was, however it ended.
abbrev pub RunsImage : Mode → List ℕ → (List Event → List ℕ) → Code → ℕ → ℕ → SinkState → SinkState → DevicesState → DevicesState → Status → Type 0
RunsImage mode.Silent text used code depth steps out out' devices devices' end = RunsCode code depth steps devices devices' end × (out' ≡ out)
RunsImage mode.Traced text used code depth steps out out' devices devices' end = TracesCode code depth steps out out' devices devices' end
RunsImage (mode.Summed number) text used code depth steps out out' devices devices' end = SumsCode text code depth steps out out' devices devices' end
RunsImage mode.Observed text used code depth steps out out' devices devices' end = ObservesCode used code depth steps out out' devices devices' end

-- the text that sums a run up, which only a sample has
abbrev pub summary_in : Mode → Program → List ℕ
summary_in (mode.Summed number) program = summary_text number program
summary_in way program = []

-- .. which is a program's
abbrev pub RunsAs : Mode → Program → ℕ → ℕ → SinkState → SinkState → DevicesState → DevicesState → Status → Type 0
RunsAs way program depth steps out out' devices devices' end = RunsImage way (summary_in way program) (observed_text program) (lowered program (program_starts program)) depth steps out out' devices devices' end

-- a program was run: its report was not written whole and nothing was done; or it was, and then its code was run
pub data Ran (way : Mode) (program : Program) (depth steps : ℕ) (out out' report report' : SinkState) (devices devices' : DevicesState) (end : Status) : Type 0 where
  stopped : StopsShort (authority_text program) report report' → out' ≡ out → devices' ≡ devices
      → (end ≡ status.Memory) ⊎ ((end ≡ status.Unwritten) × Rose report.faults report'.faults) → Ran way program depth steps out out' report report' devices devices' end
  performed : WritesUpTo (authority_text program) [] report report' → RunsAs way program depth steps out out' devices devices' end
      → Ran way program depth steps out out' report report' devices devices' end
