-- What a call promises that ran a program, or began to.
use Rattle.std.proofs.Common.{◌≡◌, ◌≢◌, ◌⊎◌, inl, inr, ◌≤◌, ℕ, List, [], Some, refl, sym, ◌∙◌, ap, subst}
use Rattle.wy_text.specs.Outside.{Rose, SinkState}
use Rattle.wy_text.specs.Writing.{StopsShort, WritesUpTo}
use Rattle.wy_device.specs.Devices.{DevicesState, device_of}
use Rattle.wy_device.specs.Events.{DidExactly}
use Rattle.wy_device.specs.Operation.{kind_named}
use Rattle.wy_device.specs.Tapes.{Tapes, spliced}
use Rattle.wy_device.specs.declared.deed.Event.{Event}
use Rattle.wy_device.specs.declared.operation.OpName.{OpName}
use Rattle.wy_lower.specs.Lowering.{lowered}
use Rattle.wy_machine.specs.Runs.{EndsIn, FailsByFault, tapes_of}
use Rattle.wy_machine.specs.declared.run_end.RunEnd.{RunEnd}
use Rattle.wy_machine.specs.declared.run_end.RunEnd.TheVariants as end
use Rattle.wy_rules.specs.Acceptance.{Accepted}
use Rattle.wy_sound.specs.Courses.{course}
use Rattle.wy_sound.specs.Programs.{program_starts}
use Rattle.wy_types.specs.Program.{Program}
use Rattle.wy_engine.specs.Headline.{EndsAs, HasEnded, HasRun, IsUncut, IsUnprinted, IsUnwritten, MissesReport, Runs, WritesRun, WritesUsed, meant_after}
use Rattle.wy_engine.specs.Judgement.{IsNumbered, authority_text, observed_text, running, summary_text}
use Rattle.wy_engine.specs.ProgramLaws.{RunsAsMeant}
use Rattle.wy_engine.specs.Running.{ObservesCode, Ran, RunsCode, SumsCode, ThenWrote, TracesCode, begun, performed, skipped, status_of, stopped, summed, unbegun}
use Rattle.wy_settings.specs.Settings.{Settings, sample_number}
use Rattle.wy_engine.specs.Status.{IsOfRun}
use Rattle.wy_engine.specs.TopCall.{IsSet, TopCall}
use Rattle.wy_settings.specs.declared.command_line.Command.{Command}
use Rattle.wy_settings.specs.declared.command_line.Command.TheVariants as command
use Rattle.wy_engine.specs.declared.running.Mode.{Mode}
use Rattle.wy_engine.specs.declared.running.Mode.TheVariants as mode
use Rattle.wy_engine.specs.declared.status.Status.{Status}
use Rattle.wy_engine.specs.declared.status.Status.TheVariants as status
use Rattle.wy_engine.proofs.CodeRuns.{BeginsWith, begins_with, ends_as, written_code}
use Rattle.wy_engine.proofs.Deeds.{did_none}
use Rattle.wy_engine.proofs.OneAnswer.{runs_programs}
use Rattle.wy_engine.proofs.Statuses.{observed_run, run_of_end, then_run}
use Rattle.wy_engine.proofs.SumsMade.{ended_by, ended_wrote, rose_wrote, sums_by, sums_none, uncut_ended, unfailed_wrote}
use Rattle.wy_engine.proofs.TracesMade.{begins_traced, rose_traced, uncut_run, writes_events, writes_none}
use Rattle.wy_engine.proofs.UsedMade.{Came, came_failed, came_of, came_rose, came_uncut, used_none, writes_used}

-- ---- events that happened

-- events with which a program's meaning begins, whose deeds devices did
record DidEvents (program : Program) (depth : ℕ) (before after : DevicesState) (events : List Event) : Type 0 where
  did : DidExactly before after events
  begins : BeginsWith program depth events

-- nothing was done
did_nothing : (program : Program) (depth : ℕ) (before after : DevicesState) → after ≡ before → DidEvents program depth before after []
did_nothing program depth before after same = record {
  did = did_none before after same;
  begins = record { first = λ more. ((course program depth (spliced (tapes_of []) more)).events, refl) };
}

-- the program's code was run
did_code : (program : Program) → RunsAsMeant program → (depth steps : ℕ) (before after : DevicesState) (s : Status) → (so : RunsCode (lowered program (program_starts program)) depth steps before after s) → DidEvents program depth before after so.runs.events
did_code program laws depth steps before after s so = record {
  did = so.runs.did;
  begins = begins_with program laws depth steps so.runs.events so.ended so.runs.ends;
}

-- .. or traced
did_traced : (program : Program) → RunsAsMeant program → (depth steps : ℕ) (out out' : SinkState) (before after : DevicesState) (s : Status) → (so : TracesCode (lowered program (program_starts program)) depth steps out out' before after s)
    → DidEvents program depth before after so.runs.events
did_traced program laws depth steps out out' before after s so = record {
  did = so.runs.did;
  begins = begins_traced program laws depth steps so.runs.events out out' so.ended so.runs.ends;
}

-- ---- how it ended

stopped_status : {A : Type 0} → (end : Status) → end ≢ status.Memory → end ≢ status.Unwritten → (end ≡ status.Memory) ⊎ ((end ≡ status.Unwritten) × A) → ⊥
stopped_status end full written (inl is) = full is
stopped_status end full written (inr is) = written is.0

rose_of : {A : Type 0} → (end : Status) → end ≡ status.Unwritten → (end ≡ status.Memory) ⊎ ((end ≡ status.Unwritten) × A) → A
rose_of end is (inl other) = let q : status.Unwritten ≡ status.Memory = sym is ∙ other in absurd (cc)
rose_of end is (inr both) = both.1

not_failed : {A : Type 0} → (end : Status) (grant : List ℕ) (op : OpName) → end ≡ status.DeviceFailed grant op → (end ≡ status.Memory) ⊎ ((end ≡ status.Unwritten) × A) → ⊥
not_failed end grant op is (inl other) = let q : status.DeviceFailed grant op ≡ status.Memory = sym is ∙ other in cc
not_failed end grant op is (inr other) = let q : status.DeviceFailed grant op ≡ status.Unwritten = sym is ∙ other.0 in cc

unwritten_code : (program : Program) (depth steps : ℕ) (before after : DevicesState) (s : Status) → RunsCode (lowered program (program_starts program)) depth steps before after s → s ≢ status.Unwritten
unwritten_code program depth steps before after s so is = written_code program depth steps so.runs.events so.ended so.runs.ends (sym so.says ∙ is)

-- a run of code that ended so ends as the meaning does, whatever would be answered further
ends_given : (program : Program) → RunsAsMeant program → (depth steps : ℕ) (s : Status) (events : List Event) (e : RunEnd)
    → EndsIn (lowered program (program_starts program)) depth steps events e → s ≡ status_of e → s ≢ status.Memory → (more : Tapes) → EndsAs s steps (course program depth (spliced (tapes_of events) more))
ends_given program laws depth steps s events e ends says full more =
    subst (λ (x : Status). EndsAs x steps (course program depth (spliced (tapes_of events) more))) (sym says) (ends_as program laws depth steps events e ends (λ is. full (says ∙ is)) more)

ends_code : (program : Program) → RunsAsMeant program → (depth steps : ℕ) (before after : DevicesState) (s : Status) → (so : RunsCode (lowered program (program_starts program)) depth steps before after s)
    → IsUncut s → (more : Tapes) → EndsAs s steps (course program depth (spliced (tapes_of so.runs.events) more))
ends_code program laws depth steps before after s so uncut = ends_given program laws depth steps s so.runs.events so.ended so.runs.ends so.says uncut.full

ends_traced : (program : Program) → RunsAsMeant program → (depth steps : ℕ) (out out' : SinkState) (before after : DevicesState) (s : Status) → (so : TracesCode (lowered program (program_starts program)) depth steps out out' before after s)
    → IsUncut s → (more : Tapes) → EndsAs s steps (course program depth (spliced (tapes_of so.runs.events) more))
ends_traced program laws depth steps out out' before after s so uncut =
    ends_given program laws depth steps s so.runs.events so.ended
    (uncut_run program depth steps so.runs.events out out' so.ended so.runs.ends (subst (λ (x : Status). IsUncut x) so.says uncut)).0 so.says uncut.full

-- the device of an operation that failed counted a fault
fault_of : (before after : DevicesState) (e : RunEnd) (grant : List ℕ) (op : OpName) → status_of e ≡ status.DeviceFailed grant op → FailsByFault before after e
    → Rose (device_of before (kind_named op)).faults (device_of after (kind_named op)).faults
fault_of before after (end.DeviceFailed g o) grant op is failed = let same : o ≡ op = cc in subst (λ (x : OpName). Rose (device_of before (kind_named x)).faults (device_of after (kind_named x)).faults) same failed
fault_of before after end.Ended grant op is failed = absurd (cc)
fault_of before after (end.Trap kind place) grant op is failed = absurd (cc)
fault_of before after end.TooDeep grant op is failed = absurd (cc)
fault_of before after end.Spent grant op is failed = absurd (cc)
fault_of before after end.SinkFailed grant op is failed = absurd (cc)
fault_of before after end.Memory grant op is failed = absurd (cc)

-- ---- the whole call

-- nothing was done, since the report was not written whole
record StopsBefore (call : TopCall) (text : List ℕ) : Type 0 where
  short : StopsShort text call.report call.report_after
  out : call.out_after ≡ call.out
  same : call.devices_after ≡ call.devices
  why : (call.status ≡ status.Memory) ⊎ ((call.status ≡ status.Unwritten) × Rose call.report.faults call.report_after.faults)

unprinted : (call : TopCall) (text : List ℕ) (so : StopsBefore call text) → call.status ≡ status.Unwritten → IsUnprinted call so.short.rest
unprinted call text so is = record { some = so.short.some; devices = so.same; rose = rose_of call.status is so.why }

misses : (call : TopCall) (text : List ℕ) → StopsBefore call text → call.status ≡ status.Unwritten → MissesReport call text
misses call text so is = record {
  front = so.short.written.front;
  rest = so.short.rest;
  split = so.short.written.split;
  taken = so.short.written.taken;
  missed = unprinted call text so is;
}

unwritten_by : (asked : Command) (call : TopCall) (rest : List ℕ) → IsUnprinted call rest → IsUnwritten asked call rest
unwritten_by command.Check call rest is = is
unwritten_by command.Authority call rest is = is
unwritten_by command.Run call rest is = is
unwritten_by command.Trace call rest is = inl is
unwritten_by command.Observe call rest is = inl is
unwritten_by command.Sample call rest is = inl is
unwritten_by command.Format call rest is = is
unwritten_by command.Policy call rest is = is
unwritten_by command.Certify call rest is = is
unwritten_by command.Recheck call rest is = is

stopped_ended : {A : Type 0} → (end : Status) → end ≡ status.Ended → (end ≡ status.Memory) ⊎ ((end ≡ status.Unwritten) × A) → ⊥
stopped_ended end is (inl other) = let q : status.Ended ≡ status.Memory = sym is ∙ other in cc
stopped_ended end is (inr other) = let q : status.Ended ≡ status.Unwritten = sym is ∙ other.0 in cc

stopped_spent : {A : Type 0} → (end : Status) → end ≡ status.Spent → (end ≡ status.Memory) ⊎ ((end ≡ status.Unwritten) × A) → ⊥
stopped_spent end is (inl other) = let q : status.Spent ≡ status.Memory = sym is ∙ other in cc
stopped_spent end is (inr other) = let q : status.Spent ≡ status.Unwritten = sym is ∙ other.0 in cc

nothing_written : (way : Mode) (call : TopCall) (settings : Settings) (program : Program) → RunsAsMeant program → IsNumbered way settings.files → StopsBefore call (authority_text program) → WritesRun (running way) call settings program []
nothing_written mode.Silent call settings program laws number so = so.out
nothing_written mode.Traced call settings program laws number so =
    writes_none call settings program so.out (λ uncut. stopped_status call.status uncut.full uncut.written so.why) (λ is. stopped_spent call.status is so.why)
nothing_written (mode.Summed number) call settings program laws is so =
    sums_none call settings program number is so.out (λ ended. stopped_ended call.status ended so.why) (misses call (authority_text program) so)
nothing_written mode.Observed call settings program laws number so =
    used_none call settings program laws so.out (λ uncut. stopped_status call.status uncut.full uncut.written so.why) (misses call (authority_text program) so)

stopped_reached : (call : TopCall) (text : List ℕ) → StopsBefore call text → IsOfRun call.status
stopped_reached call text so = elim so.why [ inl is ↦ subst IsOfRun (sym is) tt | inr is ↦ subst IsOfRun (sym is.0) tt ]

stopped_by : (call : TopCall) (program : Program) → Accepted program → RunsAsMeant program → (asked : HasRun call) → WritesRun asked.settings.command call asked.settings program []
    → StopsBefore call (authority_text program) → Runs call program
stopped_by call program accepted laws asked out so =
    let none = did_nothing program asked.settings.depth call.devices call.devices_after so.same in
    record {
      asked = asked;
      accepted = accepted;
      reached = stopped_reached call (authority_text program) so;
      events = [];
      did = none.did;
      first = none.begins.first;
      ends = λ uncut. absurd (stopped_status call.status uncut.full uncut.written so.why);
      out = out;
      printed = record {
        front = so.short.written.front;
        rest = so.short.rest;
        split = so.short.written.split;
        taken = so.short.written.taken;
        first = inr (so.out, so.same);
        whole = λ written full. absurd (stopped_status call.status full written so.why);
        proper = λ is. unwritten_by asked.settings.command call so.short.rest (unprinted call (authority_text program) so is);
      };
      authority = laws.bounded;
      reported = laws.reported;
      failed = λ grant op is. absurd (not_failed call.status grant op is so.why);
    }

-- how code was run after the report was written: what was done, what came to `out`, and how it ended
record Performs (call : TopCall) (asked : HasRun call) (program : Program) : Type 0 where
  reached : IsOfRun call.status
  events : List Event
  did : DidEvents program asked.settings.depth call.devices call.devices_after events
  ends : IsUncut call.status → (more : Tapes) → EndsAs call.status asked.settings.steps (meant_after asked.settings program events more)
  out : WritesRun asked.settings.command call asked.settings program events
  cut : call.status ≡ status.Unwritten → IsUnwritten asked.settings.command call []
  failed : (grant : List ℕ) (op : OpName) → call.status ≡ status.DeviceFailed grant op → Rose (device_of call.devices (kind_named op)).faults (device_of call.devices_after (kind_named op)).faults

performed_by : (call : TopCall) (program : Program) → Accepted program → RunsAsMeant program → (asked : HasRun call) → WritesUpTo (authority_text program) [] call.report call.report_after → Performs call asked program
    → Runs call program
performed_by call program accepted laws asked written so = record {
  asked = asked;
  accepted = accepted;
  reached = so.reached;
  events = so.events;
  did = so.did.did;
  first = so.did.begins.first;
  ends = so.ends;
  out = so.out;
  printed = record {
    front = written.front;
    rest = [];
    split = written.split;
    taken = written.taken;
    first = inl refl;
    whole = λ _ full. refl;
    proper = so.cut;
  };
  authority = laws.bounded;
  reported = laws.reported;
  failed = so.failed;
}

-- the words of a call that runs programs
run_command : (call : TopCall) (settings : Settings) (way : Mode) → IsSet call settings → settings.command ≡ running way → HasRun call
run_command call settings way set is = record { settings = settings; set = set; runs = runs_programs settings.command way is }

performs_run : (call : TopCall) (settings : Settings) (set : IsSet call settings) (program : Program) → RunsAsMeant program → (is : settings.command ≡ command.Run)
    → RunsCode (lowered program (program_starts program)) settings.depth settings.steps call.devices call.devices_after call.status → call.out_after ≡ call.out → Performs call (run_command call settings mode.Silent set is) program
unfolding run_command
performs_run call settings set program laws is so out = record {
  reached = subst IsOfRun (sym so.says) (run_of_end so.ended);
  events = so.runs.events;
  out = subst (λ (c : Command). WritesRun c call settings program so.runs.events) (sym is) out;
  cut = λ unwritten. absurd (unwritten_code program settings.depth settings.steps call.devices call.devices_after call.status so unwritten);
  did = did_code program laws settings.depth settings.steps call.devices call.devices_after call.status so;
  ends = ends_code program laws settings.depth settings.steps call.devices call.devices_after call.status so;
  failed = λ grant op failed. fault_of call.devices call.devices_after so.ended grant op (sym so.says ∙ failed) so.runs.failed;
}

performs_trace : (call : TopCall) (settings : Settings) (set : IsSet call settings) (program : Program) → RunsAsMeant program → (is : settings.command ≡ command.Trace)
    → TracesCode (lowered program (program_starts program)) settings.depth settings.steps call.out call.out_after call.devices call.devices_after call.status → Performs call (run_command call settings mode.Traced set is) program
unfolding run_command
performs_trace call settings set program laws is so = record {
  reached = subst IsOfRun (sym so.says) (run_of_end so.ended);
  events = so.runs.events;
  out = subst (λ (c : Command). WritesRun c call settings program so.runs.events) (sym is) (writes_events call settings program laws so);
  cut = λ unwritten. subst (λ (c : Command). IsUnwritten c call []) (sym is)
      (inr (refl, rose_traced program settings.depth settings.steps so.runs.events call.out call.out_after so.ended so.runs.ends (sym so.says ∙ unwritten)));
  did = did_traced program laws settings.depth settings.steps call.out call.out_after call.devices call.devices_after call.status so;
  ends = ends_traced program laws settings.depth settings.steps call.out call.out_after call.devices call.devices_after call.status so;
  failed = λ grant op failed. fault_of call.devices call.devices_after so.ended grant op (sym so.says ∙ failed) so.runs.failed;
}

-- what a run was cut short by is no write to `out`, unless it was the text behind it
then_unwritten : (program : Program) (depth k : ℕ) (events : List Event) (text : List ℕ) (out out' : SinkState) (ended : RunEnd) (s : Status) → EndsIn (lowered program (program_starts program)) depth k events ended
    → ThenWrote text out out' ended s → s ≡ status.Unwritten → Rose out.faults out'.faults
then_unwritten program depth k events text out out' ended s to (summed is wrote) unwritten = rose_wrote text out out' s wrote unwritten
then_unwritten program depth k events text out out' ended s to (skipped other same says) unwritten = absurd (written_code program depth k events ended to (sym says ∙ unwritten))

then_failed : (text : List ℕ) (out out' : SinkState) (ended : RunEnd) (s : Status) (grant : List ℕ) (op : OpName) → ThenWrote text out out' ended s → s ≡ status.DeviceFailed grant op → status_of ended ≡ status.DeviceFailed grant op
then_failed text out out' ended s grant op (summed is wrote) failed = absurd (unfailed_wrote text out out' s wrote grant op failed)
then_failed text out out' ended s grant op (skipped other same says) failed = sym says ∙ failed

-- the status of a run whose text was written whole is that of the run
then_status : (text : List ℕ) (out out' : SinkState) (ended : RunEnd) (s : Status) → ThenWrote text out out' ended s → IsUncut s → s ≡ status_of ended
then_status text out out' ended s (summed is wrote) uncut = ended_wrote text out out' s wrote uncut.full uncut.written ∙ sym (ap status_of is)
then_status text out out' ended s (skipped other same says) uncut = says

performs_sample : (call : TopCall) (settings : Settings) (set : IsSet call settings) (program : Program) → RunsAsMeant program → (number : ℕ) → sample_number settings.files ≡ Some number → (is : settings.command ≡ command.Sample)
    → SumsCode (summary_text number program) (lowered program (program_starts program)) settings.depth settings.steps call.out call.out_after call.devices call.devices_after call.status
    → Performs call (run_command call settings (mode.Summed number) set is) program
unfolding run_command
performs_sample call settings set program laws number numbered is so =
    let code : RunsCode (lowered program (program_starts program)) settings.depth settings.steps call.devices call.devices_after (status_of so.ended) = record { ended = so.ended; runs = so.runs; says = refl } in
    let finished : so.ended ≡ end.Ended → HasEnded settings program so.runs.events = λ ended.
    ended_by settings program so.runs.events (λ more. subst (λ (e : RunEnd). EndsAs (status_of e) settings.steps (meant_after settings program so.runs.events more)) ended
    (ends_code program laws settings.depth settings.steps call.devices call.devices_after (status_of so.ended) code (uncut_ended so.ended ended) more)) in
    record {
      reached = then_run (summary_text number program) call.out call.out_after so.ended call.status so.wrote;
      events = so.runs.events;
      out = subst (λ (c : Command). WritesRun c call settings program so.runs.events) (sym is) (sums_by call settings program so.runs.events number numbered so.ended so.wrote finished
          (λ _ unwritten. written_code program settings.depth settings.steps so.runs.events so.ended so.runs.ends unwritten));
      cut = λ unwritten. subst (λ (c : Command). IsUnwritten c call []) (sym is)
          (inr (refl, then_unwritten program settings.depth settings.steps so.runs.events (summary_text number program) call.out call.out_after so.ended call.status so.runs.ends so.wrote unwritten));
      did = did_code program laws settings.depth settings.steps call.devices call.devices_after (status_of so.ended) code;
      ends = λ uncut more. let same : call.status ≡ status_of so.ended = then_status (summary_text number program) call.out call.out_after so.ended call.status so.wrote uncut in
          subst (λ (s : Status). EndsAs s settings.steps (meant_after settings program so.runs.events more)) (sym same)
          (ends_code program laws settings.depth settings.steps call.devices call.devices_after (status_of so.ended) code (subst (λ (s : Status). IsUncut s) same uncut) more);
      failed = λ grant op failed. fault_of call.devices call.devices_after so.ended grant op (then_failed (summary_text number program) call.out call.out_after so.ended call.status grant op so.wrote failed) so.runs.failed;
    }

-- memory was wanting before the run began
performs_none : (call : TopCall) (settings : Settings) (set : IsSet call settings) (program : Program) → (is : settings.command ≡ command.Observe) → call.status ≡ status.Memory → call.devices_after ≡ call.devices
    → WritesUsed call settings program [] → Performs call (run_command call settings mode.Observed set is) program
unfolding run_command
performs_none call settings set program is memory same out = record {
  reached = subst IsOfRun (sym memory) tt;
  events = [];
  out = subst (λ (c : Command). WritesRun c call settings program []) (sym is) out;
  cut = λ unwritten. let q : status.Memory ≡ status.Unwritten = sym memory ∙ unwritten in absurd (cc);
  did = did_nothing program settings.depth call.devices call.devices_after same;
  ends = λ uncut. absurd (uncut.full memory);
  failed = λ grant op failed. let q : status.Memory ≡ status.DeviceFailed grant op = sym memory ∙ failed in absurd (cc);
}

performs_observe : (call : TopCall) (settings : Settings) (set : IsSet call settings) (program : Program) → RunsAsMeant program → (is : settings.command ≡ command.Observe)
    → ObservesCode (observed_text program) (lowered program (program_starts program)) settings.depth settings.steps call.out call.out_after call.devices call.devices_after call.status
    → Performs call (run_command call settings mode.Observed set is) program
unfolding run_command
performs_observe call settings set program laws is (unbegun memory out same) =
    performs_none call settings set program is memory same (used_none call settings program laws out (λ uncut. uncut.full memory)
    (λ unwritten. let q : status.Memory ≡ status.Unwritten = sym memory ∙ unwritten in absurd (cc)))
performs_observe call settings set program laws is (begun ended runs so) =
    let code : RunsCode (lowered program (program_starts program)) settings.depth settings.steps call.devices call.devices_after (status_of ended) = record { ended = ended; runs = runs; says = refl } in
    let came : Came call.out call.out_after ended call.status = came_of (observed_text program runs.events) call.out call.out_after ended call.status so in
    record {
      reached = observed_run (observed_text program runs.events) call.out call.out_after ended call.status so;
      events = runs.events;
      out = subst (λ (c : Command). WritesRun c call settings program runs.events) (sym is) (writes_used call settings program laws ended runs so);
      cut = λ unwritten. subst (λ (c : Command). IsUnwritten c call []) (sym is)
          (inr (refl, came_rose call.out call.out_after ended call.status (written_code program settings.depth settings.steps runs.events ended runs.ends) came unwritten));
      did = did_code program laws settings.depth settings.steps call.devices call.devices_after (status_of ended) code;
      ends = λ uncut more. let same : call.status ≡ status_of ended = came_uncut call.out call.out_after ended call.status came uncut in
          subst (λ (s : Status). EndsAs s settings.steps (meant_after settings program runs.events more)) (sym same)
          (ends_code program laws settings.depth settings.steps call.devices call.devices_after (status_of ended) code (subst (λ (s : Status). IsUncut s) same uncut) more);
      failed = λ grant op failed. fault_of call.devices call.devices_after ended grant op (came_failed call.out call.out_after ended call.status grant op came failed) runs.failed;
    }

pub runs_by : (call : TopCall) (settings : Settings) (set : IsSet call settings) (program : Program) → Accepted program → RunsAsMeant program → (way : Mode) → settings.command ≡ running way → IsNumbered way settings.files
    → Ran way program settings.depth settings.steps call.out call.out_after call.report call.report_after call.devices call.devices_after call.status → Runs call program
unfolding run_command
runs_by call settings set program accepted laws way is number (stopped short out same why) =
    let so : StopsBefore call (authority_text program) = record { short = short; out = out; same = same; why = why } in
    stopped_by call program accepted laws (run_command call settings way set is) (subst (λ (c : Command). WritesRun c call settings program []) (sym is) (nothing_written way call settings program laws number so)) so
runs_by call settings set program accepted laws mode.Silent is number (performed written so) =
    performed_by call program accepted laws (run_command call settings mode.Silent set is) written (performs_run call settings set program laws is so.0 so.1)
runs_by call settings set program accepted laws mode.Traced is number (performed written so) =
    performed_by call program accepted laws (run_command call settings mode.Traced set is) written (performs_trace call settings set program laws is so)
runs_by call settings set program accepted laws (mode.Summed n) is number (performed written so) =
    performed_by call program accepted laws (run_command call settings (mode.Summed n) set is) written (performs_sample call settings set program laws n number is so)
runs_by call settings set program accepted laws mode.Observed is number (performed written so) =
    performed_by call program accepted laws (run_command call settings mode.Observed set is) written (performs_observe call settings set program laws is so)

pub ran_counted : (way : Mode) (program : Program) (depth steps : ℕ) (out out' report report' : SinkState) (devices devices' : DevicesState) (end : Status)
    → Ran way program depth steps out out' report report' devices devices' end → report.faults ≤ report'.faults
ran_counted way program depth steps out out' report report' devices devices' end (stopped short o same why) = short.written.counted
ran_counted way program depth steps out out' report report' devices devices' end (performed written so) = written.counted
