-- A run over devices that tell their deeds: what is promised of its events is then promised of what the devices told. It is asked of
-- one device at a time, so a device that keeps its deeds takes nothing from the promises about the others.
use Rattle.std.specs.Prelude.{◌≡◌, ◌++◌, List, IsSome}
use Rattle.wy_code.specs.Running.{Ran, machine}
use Rattle.wy_device.specs.declared.deed.Deed.{Deed}
use Rattle.wy_device.specs.declared.operation.Kind.{Kind}
use Rattle.wy_device.specs.Devices.{DevicesState, device_of}
use Rattle.wy_device.specs.Requests.{tape_of}
use Rattle.wy_device.specs.Events.{DidExactly, TellsDeeds, deeds_of}
use Rattle.wy_device.specs.Tapes.{Tapes, answers, new_deeds_of, spliced, tapes_between}
use Rattle.wy_lower.specs.Correct.{IsPrefix}
use Rattle.wy_lower.specs.Lowering.{lowered}
use Rattle.wy_machine.specs.Runs.{tapes_of}
use Rattle.wy_meaning.specs.Start.{Course}
use Rattle.wy_settings.specs.Settings.{Settings}
use Rattle.wy_sound.specs.Courses.{course}
use Rattle.wy_sound.specs.Programs.{program_starts}
use Rattle.wy_types.specs.Program.{Program}
use Rattle.wy_engine.specs.Headline.{EndsAs, IsUncut, Runs, meant_after}
use Rattle.wy_engine.specs.TopCall.{TopCall}

-- what a program means over the answers that its devices gave in this call
abbrev pub course_in : TopCall → Settings → Program → Course
course_in call settings program = course program settings.depth (tapes_between call.devices call.devices_after)

-- .. and the run of its code
abbrev pub code_in : TopCall → Settings → Program → Ran
code_in call settings program =
    machine (lowered program (program_starts program)) settings.depth settings.steps (tapes_between call.devices call.devices_after)

-- the deeds that a device did are the first of these
abbrev pub DidFirst : Kind → TopCall → List Deed → Type 0
DidFirst kind call deeds = (later : List Deed) × (deeds ≡ new_deeds_of kind call.devices call.devices_after ++ later)

-- the device of a kind tells its deeds
abbrev pub TellsKind : DevicesState → Kind → Type 0
TellsKind devices kind = IsSome (device_of devices kind).deeds

-- what a program means over the answers in a run's events, and no others
abbrev pub course_of : (call : TopCall) (program : Program) → Runs call program → Course
course_of call program run = course program run.asked.settings.depth (tapes_of run.events)

-- The device of one kind tells its deeds. It did exactly those of its kind that the meaning has over the answers in the run's events,
-- and its answers are those in the events. Whatever would be answered further, its deeds are the first of the meaning's.
pub record IsToldOf (call : TopCall) (program : Program) (run : Runs call program) (kind : Kind) : Type 0 where
  pub deeds : new_deeds_of kind call.devices call.devices_after ≡ deeds_of kind run.events
  pub answered : tape_of kind (tapes_of run.events) ≡ answers (new_deeds_of kind call.devices call.devices_after)
  pub operations : new_deeds_of kind call.devices call.devices_after ≡ deeds_of kind (course_of call program run).events
  pub prefix : (more : Tapes) → DidFirst kind call (deeds_of kind (meant_after run.asked.settings program run.events more).events)

-- All devices tell their deeds. The answers in a run's events are those that the devices gave. The devices did exactly the deeds
-- of the program's meaning over these answers. Over any tapes that begin with them, the deeds that were done are the first of the
-- meaning's. And the status is the one that the meaning's end gives, or Spent, unless memory or a write cut the run short.
pub record IsTold (call : TopCall) (program : Program) (run : Runs call program) : Type 0 where
  pub answered : tapes_between call.devices call.devices_after ≡ tapes_of run.events
  pub first : IsPrefix run.events (course_in call run.asked.settings program).events
  pub operations : DidExactly call.devices call.devices_after (course_in call run.asked.settings program).events
  pub prefix : (kind : Kind) (more : Tapes) →
      DidFirst kind call (deeds_of kind (course program run.asked.settings.depth (spliced (tapes_between call.devices call.devices_after) more)).events)
  pub ends : IsUncut call.status → EndsAs call.status run.asked.settings.steps (course_in call run.asked.settings program)

pub record RunsAreTold : Type 0 where
  pub each : (call : TopCall) (program : Program) (run : Runs call program) (kind : Kind) → TellsKind call.devices kind → IsToldOf call program run kind
  pub all : (call : TopCall) (program : Program) (run : Runs call program) → TellsDeeds call.devices → IsTold call program run
