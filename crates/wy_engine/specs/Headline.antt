-- What a call of the top function promises: which texts it accepts, what it prints and writes, which operations it
-- does, that they are within the authority that it printed, and how it ends.
use Rattle.std.specs.Prelude.{◌≡◌, ◌≢◌, ◌⊎◌, ◌<◌, ◌≤◌, ◌*◌, ℕ, List, [], ◌∷◌, ◌++◌, Some, None, length, ⊤}
use Rattle.wy_text.specs.Outside.{gained, Rose, SinkState}
use Rattle.wy_device.specs.Devices.{device_of}
use Rattle.wy_device.specs.Events.{DidExactly}
use Rattle.wy_device.specs.Operation.{kind_named}
use Rattle.wy_device.specs.RunEnds as ends
use Rattle.wy_device.specs.Tapes.{Tapes, spliced}
use Rattle.wy_device.specs.declared.deed.Event.{Event}
use Rattle.wy_device.specs.declared.operation.OpName.{OpName}
use Rattle.wy_text.specs.Members.{In}
use Rattle.wy_text.specs.declared.limit.LimitName.TheVariants as limit
use Rattle.wy_authority.specs.Authority.{authority_of}
use Rattle.wy_authority.specs.declared.rows.InstanceRow.{InstanceRow}
use Rattle.wy_code.specs.Running.{Ran, machine}
use Rattle.wy_lower.specs.Correct.{IsPrefix}
use Rattle.wy_lower.specs.Lowering.{lowered}
use Rattle.wy_machine.specs.Runs.{tapes_of}
use Rattle.wy_machine.specs.Steps.{AreQuiet}
use Rattle.wy_meaning.specs.Bounds.{Bounded}
use Rattle.wy_meaning.specs.EventLines.{event_line, event_lines}
use Rattle.wy_meaning.specs.Start.{Course}
use Rattle.wy_syntax.specs.Canonical.{canonical_form}
use Rattle.wy_types.specs.Program.{Program}
use Rattle.wy_sound.specs.Courses.{course}
use Rattle.wy_sound.specs.Programs.{allowed, program_starts}
use Rattle.wy_sound.specs.Used.{IsUsedWithin}
use Rattle.wy_rules.specs.Acceptance.{Accepted}
use Rattle.wy_certify.specs.Certificates.{IsCertified}
use Rattle.wy_engine.specs.Certificates.{proved_text}
use Rattle.wy_engine.specs.Folders.{AsksCall, StopsCall}
use Rattle.wy_engine.specs.Judgement.{Did, IsReported, RunsPrograms, accepted_text, allowed_text, authority_text, certified, checked, formatted, nothing, observed_text, permitted, proved, ran, reported, summary_text}
use Rattle.wy_engine.specs.LastLine.{LineWords, last_line, line_words}
use Rattle.wy_settings.specs.Settings.{Settings, sample_number, settings_of}
use Rattle.wy_engine.specs.Texts.{HasTexts}
use Rattle.wy_engine.specs.Status.{IsOfEnd, IsOfOut, IsOfRun, IsOfTexts}
use Rattle.wy_engine.specs.TopCall.{IsQuiet, IsSet, ReadsFiles, TopCall}
use Rattle.wy_settings.specs.declared.command_line.Command.{Command}
use Rattle.wy_settings.specs.declared.command_line.Command.TheVariants as command
use Rattle.wy_engine.specs.declared.status.Status.{Status}
use Rattle.wy_engine.specs.declared.status.Status.TheVariants as status

-- Texts came to a call with these settings. They stop it with a status, or it does with them what it is asked to do. Each answer
-- comes exactly if the texts have it. Only running out of memory can replace it.
pub record Accepts (call : TopCall) (asked : Settings) (did : Did) (texts : List (List ℕ)) : Type 0 where
  pub stopped : IsOfTexts call.status → StopsCall asked texts call.status
  pub stops : (end : Status) → StopsCall asked texts end → call.status ≢ status.Memory → call.status ≡ end
  pub done : (did ≡ nothing) ⊎ AsksCall asked texts did
  pub does : (other : Did) → AsksCall asked texts other → call.status ≢ status.Memory → did ≡ other

-- a status of a call with these words to which not all texts came
abbrev pub IsTextless : List (List ℕ) → Status → Type 0
IsTextless words status.Usage = settings_of words ≡ None
IsTextless words (status.Unread file) = ⊤
IsTextless words (status.Limit name) = name ≡ limit.Files
IsTextless words status.Memory = ⊤
IsTextless words other = ⊥

-- What a call did with its texts. Either not all of them came, and it did nothing. Or they came: they are what was read of its
-- files, whether or not the shelf tells what the files hold.
pub data Answers (call : TopCall) (did : Did) : Type 0 where
  textless : IsTextless call.words call.status → did ≡ nothing → Answers call did
  answered : (asked : Settings) (texts : List (List ℕ)) → HasTexts call asked texts → Accepts call asked did texts → Answers call did

-- the words of a call are settings of the command
pub record HasCommand (call : TopCall) (command : Command) : Type 0 where
  pub settings : Settings
  pub set : IsSet call settings
  pub is : settings.command ≡ command

-- .. of one that runs programs
pub record HasRun (call : TopCall) : Type 0 where
  pub settings : Settings
  pub set : IsSet call settings
  pub runs : RunsPrograms settings.command

-- a part of the report is missing, nothing was done, and the report's sink counted a fault
pub record IsUnprinted (call : TopCall) (rest : List ℕ) : Type 0 where
  pub some : 0 < length rest
  pub devices : call.devices_after ≡ call.devices
  pub rose : Rose call.report.faults call.report_after.faults

-- .. which is the part of this text
pub record MissesReport (call : TopCall) (text : List ℕ) : Type 0 where
  pub front : List ℕ
  pub rest : List ℕ
  pub split : text ≡ front ++ rest
  pub taken : call.report_after.taken ≡ gained call.report.taken front
  pub missed : IsUnprinted call rest

-- Why a status is Unwritten: the report could not be written; or, in `trace`, the line of an event could not, or in
-- `sample` the line that sums it up, or in `observe` the lines of what was used, and then `out` counted a fault.
abbrev pub IsUnwritten : Command → TopCall → List ℕ → Type 0
IsUnwritten command.Trace call rest = IsUnprinted call rest ⊎ ((rest ≡ []) × Rose call.out.faults call.out_after.faults)
IsUnwritten command.Sample call rest = IsUnprinted call rest ⊎ ((rest ≡ []) × Rose call.out.faults call.out_after.faults)
IsUnwritten command.Observe call rest = IsUnprinted call rest ⊎ ((rest ≡ []) × Rose call.out.faults call.out_after.faults)
IsUnwritten command call rest = IsUnprinted call rest

-- The report stands on its sink, whole, before anything is done. Where it could not be written whole, a part of it
-- stands there and nothing was done.
pub record PrintsReport (call : TopCall) (command : Command) (text : List ℕ) : Type 0 where
  pub front : List ℕ
  pub rest : List ℕ
  pub split : text ≡ front ++ rest
  pub taken : call.report_after.taken ≡ gained call.report.taken front
  pub first : (rest ≡ []) ⊎ ((call.out_after ≡ call.out) × (call.devices_after ≡ call.devices))
  pub whole : call.status ≢ status.Unwritten → call.status ≢ status.Memory → rest ≡ []
  pub proper : call.status ≡ status.Unwritten → IsUnwritten command call rest

-- what a program means over the answers in these events, and any further ones after them
abbrev pub meant_after : Settings → Program → List Event → Tapes → Course
meant_after settings program events more = course program settings.depth (spliced (tapes_of events) more)

-- .. and the run of its code
abbrev pub code_after : Settings → Program → List Event → Tapes → Ran
code_after settings program events more =
    machine (lowered program (program_starts program)) settings.depth settings.steps (spliced (tapes_of events) more)

-- a part of the line of the first of these events, and not the whole, where there are any; and no other is a deed
pub data BeginsLine (part : List ℕ) : List Event → Type 0 where
  none : part ≡ [] → BeginsLine part []
  some : (event : Event) (later : List Event) (cut : List ℕ) → event_line event ≡ part ++ cut → 0 < length cut → AreQuiet later → BeginsLine part (event ∷ later)

-- the status is that of a run which neither memory nor a write cut short
pub record IsUncut (end : Status) : Type 0 where
  pub full : end ≢ status.Memory
  pub written : end ≢ status.Unwritten

-- A run that was cut short by nothing but its bound on steps. Where the steps that the program's meaning takes are within
-- the bound, the meaning does not wait for more answers, and the status is that of its end. Where they are more, the run
-- is spent, and the bound is less than four steps a node that the meaning evaluates.
pub record EndsAs (end : Status) (bound : ℕ) (c : Course) : Type 0 where
  pub whole : c.steps ≤ bound → IsOfEnd end c.end
  pub spent : bound < c.steps → (end ≡ status.Spent) × (bound < 4 * c.nodes)

-- The line of each of these events of a traced run was written to `out` when it had happened.
--   `whole` are the events whose lines stand there; a part of the next one's line may stand behind them.
--   `further` are those that happened besides; at most the first of them is a deed. There are none unless memory or a write
--   cut the run short.
--   Whatever would be answered further, the events are all of the program's meaning, if nothing cut the run short, and as many as
--   the code has after the steps of the bound, if it is spent.
pub record WritesEvents (call : TopCall) (settings : Settings) (program : Program) (events : List Event) : Type 0 where
  pub whole : List Event
  pub part : List ℕ
  pub further : List Event
  pub split : events ≡ whole ++ further
  pub taken : call.out_after.taken ≡ gained call.out.taken (event_lines whole ++ part)
  pub begun : BeginsLine part further
  pub uncut : IsUncut call.status → further ≡ []
  pub all : IsUncut call.status → call.status ≢ status.Spent → (more : Tapes) → events ≡ (meant_after settings program events more).events
  pub spent : call.status ≡ status.Spent → (more : Tapes) → events ≡ (code_after settings program events more).events

-- whatever would be answered further, the program's meaning over the answers in these events ends within the bound
pub record HasEnded (settings : Settings) (program : Program) (events : List Event) : Type 0 where
  pub within : (more : Tapes) → (meant_after settings program events more).steps ≤ settings.steps
  pub ended : (more : Tapes) → (meant_after settings program events more).end ≡ ends.Ended

-- The line that sums a sample up came to `out`, after a run of these events: whole where the status is Ended, and a part of it, or
-- nothing, where it is Unwritten or where memory was wanting; else nothing. Something of it stands there only after a run that did
-- all that the program means. Where the status is Unwritten, a part of the report is missing; or a part of the line is, and the run
-- did all that the program means.
pub record SumsUp (call : TopCall) (settings : Settings) (program : Program) (events : List Event) : Type 0 where
  pub number : ℕ
  pub is : sample_number settings.files ≡ Some number
  pub front : List ℕ
  pub rest : List ℕ
  pub split : summary_text number program ≡ front ++ rest
  pub taken : call.out_after.taken ≡ gained call.out.taken front
  pub whole : call.status ≡ status.Ended → rest ≡ []
  pub others : IsUncut call.status → call.status ≢ status.Ended → front ≡ []
  pub begun : (front ≡ []) ⊎ HasEnded settings program events
  pub cut : call.status ≡ status.Unwritten → MissesReport call (authority_text program) ⊎ ((0 < length rest) × HasEnded settings program events)

-- These are the events of a whole run, whatever would be answered further: all of the program's meaning, where the steps that it
-- takes are within the bound; else as many as the code has after the steps of the bound.
pub record AreOfRun (settings : Settings) (program : Program) (events : List Event) : Type 0 where
  pub within : (more : Tapes) → (meant_after settings program events more).steps ≤ settings.steps → events ≡ (meant_after settings program events more).events
  pub spent : (more : Tapes) → settings.steps < (meant_after settings program events more).steps → events ≡ (code_after settings program events more).events

-- The lines of what was used of each instance came to `out`, after a run of these events: whole, unless memory was wanting or the
-- status is Unwritten, and else a part of them, or nothing. The events are those of the whole run where all lines stand there,
-- where some of them do, and where the status is Unwritten and no part of the report is missing. What was used of an instance is
-- within what the report's line of the instance says.
pub record WritesUsed (call : TopCall) (settings : Settings) (program : Program) (events : List Event) : Type 0 where
  pub front : List ℕ
  pub rest : List ℕ
  pub split : observed_text program events ≡ front ++ rest
  pub taken : call.out_after.taken ≡ gained call.out.taken front
  pub within : (r : InstanceRow) → In r (authority_of program).rows → IsUsedWithin program events r
  pub whole : IsUncut call.status → rest ≡ []
  pub all : IsUncut call.status → AreOfRun settings program events
  pub begun : (front ≡ []) ⊎ AreOfRun settings program events
  pub cut : call.status ≡ status.Unwritten → MissesReport call (authority_text program) ⊎ ((0 < length rest) × AreOfRun settings program events)

-- what came to `out`, after a run of these events: `run` writes nothing there, `trace` the lines of the events, `sample` the line that
-- sums it up, and `observe` those of what was used of each instance
abbrev pub WritesRun : Command → TopCall → Settings → Program → List Event → Type 0
WritesRun command.Run call settings program events = call.out_after ≡ call.out
WritesRun command.Trace call settings program events = WritesEvents call settings program events
WritesRun command.Sample call settings program events = SumsUp call settings program events
WritesRun command.Observe call settings program events = WritesUsed call settings program events
WritesRun command call settings program events = ⊥

-- A program was accepted, and its run was begun. These events happened, and the devices did their deeds and no others. Whatever
-- would be answered after the answers in these events:
--   the events are the first of the program's meaning over all these answers;
--   and the status is the one that this meaning's end gives, or Spent, unless memory was wanting or the report or an event's
--   line was not written.
-- At every depth and over all answers each operation is in the authority of every call that is open at it, which is what
-- the printed report says of the call's body.
pub record Runs (call : TopCall) (program : Program) : Type 0 where
  pub asked : HasRun call
  pub accepted : Accepted program
  pub reached : IsOfRun call.status
  pub events : List Event
  pub did : DidExactly call.devices call.devices_after events
  pub first : (more : Tapes) → IsPrefix events (meant_after asked.settings program events more).events
  pub ends : IsUncut call.status → (more : Tapes) → EndsAs call.status asked.settings.steps (meant_after asked.settings program events more)
  pub out : WritesRun asked.settings.command call asked.settings program events
  pub printed : PrintsReport call asked.settings.command (authority_text program)
  pub authority : (depth : ℕ) (tapes : Tapes) → Bounded (allowed program) (course program depth tapes).events
  pub reported : IsReported program
  pub failed : (grant : List ℕ) (op : OpName) → call.status ≡ status.DeviceFailed grant op → Rose (device_of call.devices (kind_named op)).faults (device_of call.devices_after (kind_named op)).faults

-- A command's text was written to `out`, and nothing else was done. Where it could not be written whole, a part of it
-- stands there.
pub record Writes (call : TopCall) (command : Command) (text : List ℕ) : Type 0 where
  pub asked : HasCommand call command
  pub reached : IsOfOut call.status
  pub front : List ℕ
  pub rest : List ℕ
  pub split : text ≡ front ++ rest
  pub taken : call.out_after.taken ≡ gained call.out.taken front
  pub whole : call.status ≡ status.Ended → rest ≡ []
  pub proper : call.status ≡ status.Unwritten → (0 < length rest) × Rose call.out.faults call.out_after.faults
  pub report : call.report_after ≡ call.report
  pub devices : call.devices_after ≡ call.devices

-- What a call left, by what it did.
abbrev pub Does : TopCall → Did → Type 0
Does call nothing = IsQuiet call × (call.status ≢ status.Memory → ¬ IsOfRun call.status)
Does call checked = Writes call command.Check accepted_text
Does call (reported program) = Writes call command.Authority (authority_text program)
Does call (ran program) = Runs call program
Does call (formatted tree) = Writes call command.Format (canonical_form tree)
Does call permitted = Writes call command.Policy allowed_text
Does call (certified program) = (text : List ℕ) × IsCertified program text × Writes call command.Certify text
Does call (proved program) = Accepted program × Writes call command.Recheck proved_text

-- All that a call promises before its last line is written.
pub record Settles (call : TopCall) : Type 0 where
  pub reads : ReadsFiles call
  pub did : Did
  pub answers : Answers call did
  pub does : Does call did
  pub counted : call.report.faults ≤ call.report_after.faults

-- The last line of the settled status was written. If memory ran out while it was made, the line of Memory was written in its place.
-- The line is whole unless the sink counted a fault or the status is Memory. A fault changes no status.
pub record Closes (words : LineWords) (settled end : Status) (before after : SinkState) : Type 0 where
  pub said : Status
  pub says : (said ≡ settled) ⊎ ((said ≡ status.Memory) × (end ≡ status.Memory))
  pub line : List ℕ
  pub cut : List ℕ
  pub split : last_line words said ≡ line ++ cut
  pub taken : after.taken ≡ gained before.taken line
  pub whole : end ≢ status.Memory → (cut ≡ []) ⊎ Rose before.faults after.faults
  pub counted : before.faults ≤ after.faults
  pub kept : (end ≡ settled) ⊎ (end ≡ status.Memory)

-- the call before its last line was written
abbrev pub before_last_line : TopCall → Status → SinkState → TopCall
before_last_line call settled report = record call { status = settled; report_after = report }

-- the promises of the top call
pub record Headline (call : TopCall) : Type 0 where
  pub settled : Status
  pub report : SinkState
  pub settles : Settles (before_last_line call settled report)
  pub closes : Closes (line_words (settings_of call.words)) settled call.status report call.report_after
