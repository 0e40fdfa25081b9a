-- That a call finds no excuse: where nothing fails outside and no limit is passed, accepted texts come to the end that
-- their program's meaning has.
use Rattle.std.specs.Prelude.{◌≡◌, ◌⊎◌, ◌≤◌, ◌+◌, ◌*◌, List, ℕ, ⊤}
use Rattle.wy_text.specs.Outside.{Rose}
use Rattle.wy_device.specs.Devices.{device_of}
use Rattle.wy_device.specs.Events.{TellsDeeds}
use Rattle.wy_device.specs.RunEnds as ends
use Rattle.wy_device.specs.RunEnds.{RunEnd}
use Rattle.wy_device.specs.declared.operation.Kind.{Kind}
use Rattle.wy_machine.specs.TrapKinds.{trap_meant}
use Rattle.wy_types.specs.Program.{Program}
use Rattle.wy_settings.specs.Settings.{Settings}
use Rattle.wy_engine.specs.Folders.{AsksCall}
use Rattle.wy_engine.specs.Given.{IsGiven}
use Rattle.wy_engine.specs.Headline.{Headline}
use Rattle.wy_engine.specs.Judgement.{Did, certified, checked, formatted, nothing, permitted, proved, ran, reported}
use Rattle.wy_engine.specs.Told.{course_in}
use Rattle.wy_engine.specs.TopCall.{TopCall}
use Rattle.wy_engine.specs.declared.status.Status.{Status}
use Rattle.wy_engine.specs.declared.status.Status.TheVariants as status

-- no part of the outside counted a fault in a call
pub record HasNoFault (call : TopCall) : Type 0 where
  pub shelf : ¬ Rose call.shelf.faults call.shelf_after.faults
  pub out : ¬ Rose call.out.faults call.out_after.faults
  pub report : ¬ Rose call.report.faults call.report_after.faults
  pub devices : (kind : Kind) → ¬ Rose (device_of call.devices kind).faults (device_of call.devices_after kind).faults

-- the status is that of a meaning which ended, trapped, or went too deep
abbrev pub EndsAsMeant : Status → RunEnd → Type 0
EndsAsMeant status.Ended end = end ≡ ends.Ended
EndsAsMeant (status.Trap kind place) end = end ≡ ends.Trap (trap_meant kind) place
EndsAsMeant status.TooDeep end = end ≡ ends.TooDeep
EndsAsMeant other end = ⊥

-- A program that is run, over devices that tell their deeds, with a bound on steps that is at least four for each node
-- that its meaning evaluates and four more, ends as its meaning does, unless memory was wanting.
abbrev pub RunsEnd : Type 0
RunsEnd = (call : TopCall) → Headline call → HasNoFault call → TellsDeeds call.devices
    → (asked : Settings) (texts : List (List ℕ)) → IsGiven call asked texts → (program : Program) → AsksCall asked texts (ran program)
    → 4 * (course_in call asked program).nodes + 4 ≤ asked.steps
    → (call.status ≡ status.Memory) ⊎ EndsAsMeant call.status (course_in call asked program).end

-- what the other commands do with texts that do not stop them
abbrev pub IsWritten : Did → Type 0
IsWritten nothing = ⊥
IsWritten checked = ⊤
IsWritten (reported program) = ⊤
IsWritten (ran program) = ⊥
IsWritten (formatted tree) = ⊤
IsWritten permitted = ⊤
IsWritten (certified program) = ⊤
IsWritten (proved program) = ⊤

-- .. and these end well, unless memory was wanting
abbrev pub WritesEnd : Type 0
WritesEnd = (call : TopCall) → Headline call → HasNoFault call
    → (asked : Settings) (texts : List (List ℕ)) → IsGiven call asked texts → (did : Did) → IsWritten did → AsksCall asked texts did
    → (call.status ≡ status.Memory) ⊎ (call.status ≡ status.Ended)

pub record AcceptedTextsEnd : Type 0 where
  pub runs : RunsEnd
  pub writes : WritesEnd
