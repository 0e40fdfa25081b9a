-- What came to `out` behind a run that is observed.
use Rattle.std.proofs.Common.{◌≡◌, ◌≢◌, ℕ, List, [], ◌∷◌, ◌++◌, inl, inr, refl, sym, ◌∙◌, ap, subst}
use Rattle.wy_text.specs.Outside.{Rose, SinkState}
use Rattle.wy_text.proofs.Gains.{gained-nil}
use Rattle.wy_text.specs.declared.fault.AtomName.{AtomName}
use Rattle.wy_text.specs.Members.{In}
use Rattle.wy_authority.specs.Authority.{authority_of}
use Rattle.wy_authority.specs.declared.rows.InstanceRow.{InstanceRow}
use Rattle.wy_meaning.specs.Bounds.{Bounded, BoundedFrom, Call}
use Rattle.wy_code.specs.Running.{Ran as RanCode}
use Rattle.wy_device.specs.Devices.{DevicesState}
use Rattle.wy_device.specs.Tapes.{Tapes, spliced}
use Rattle.wy_device.specs.declared.deed.Event.{Event}
use Rattle.wy_device.specs.declared.deed.Event.TheVariants.{Deed, Enter, Leave}
use Rattle.wy_device.specs.declared.operation.OpName.{OpName}
use Rattle.wy_lower.specs.Correct.{IsPrefix}
use Rattle.wy_lower.specs.Lowering.{lowered}
use Rattle.wy_machine.specs.Runs.{Runs as RunsMachine, tapes_of}
use Rattle.wy_machine.specs.declared.run_end.RunEnd.{RunEnd}
use Rattle.wy_machine.specs.declared.run_end.RunEnd.TheVariants as end
use Rattle.wy_sound.specs.Courses.{course}
use Rattle.wy_sound.specs.Programs.{allowed, program_starts}
use Rattle.wy_sound.specs.Used.{IsUsedWithin}
use Rattle.wy_types.specs.Program.{Program}
use Rattle.wy_engine.specs.Headline.{AreOfRun, IsUncut, MissesReport, WritesUsed, code_after}
use Rattle.wy_engine.specs.Judgement.{authority_text, observed_text}
use Rattle.wy_engine.specs.ProgramLaws.{RunsAsMeant}
use Rattle.wy_engine.specs.Running.{ThenObserved, behind, observed, status_of, unobserved}
use Rattle.wy_engine.specs.TopCall.{TopCall}
use Rattle.wy_engine.specs.Writing.{Wrote, cut, starved, whole}
use Rattle.wy_engine.specs.declared.status.Status.{Status}
use Rattle.wy_engine.specs.declared.status.Status.TheVariants as status
use Rattle.wy_settings.specs.Settings.{Settings}
use Rattle.wy_engine.proofs.CodeRuns.{BeginsWith, begins_with, code_events, written_code}
use Rattle.wy_engine.proofs.Deeds.{no_tapes}

-- ---- the status

-- what a write behind a run came to: the status is the run's; or the write failed; or memory was wanting
pub data Came (out out' : SinkState) (ended : RunEnd) (says : Status) : Type 0 where
  well : says ≡ status_of ended → Came out out' ended says
  failed : says ≡ status.Unwritten → Rose out.faults out'.faults → Came out out' ended says
  wanting : says ≡ status.Memory → Came out out' ended says

came_behind : (text : List ℕ) (out out' : SinkState) (ended : RunEnd) (wrote says : Status) → says ≡ behind wrote ended → Wrote text out out' wrote → Came out out' ended says
came_behind text out out' ended wrote says same (whole written is) = well (same ∙ ap (λ (s : Status). behind s ended) is)
came_behind text out out' ended wrote says same (cut short rose is) = failed (same ∙ ap (λ (s : Status). behind s ended) is) rose
came_behind text out out' ended wrote says same (starved rest written is) = wanting (same ∙ ap (λ (s : Status). behind s ended) is)

pub came_of : (text : List ℕ) (out out' : SinkState) (ended : RunEnd) (says : Status) → ThenObserved text out out' ended says → Came out out' ended says
came_of text out out' ended says (unobserved is same) = wanting is
came_of text out out' ended says (observed full wrote so same) = came_behind text out out' ended wrote says same so

pub came_uncut : (out out' : SinkState) (ended : RunEnd) (says : Status) → Came out out' ended says → IsUncut says → says ≡ status_of ended
came_uncut out out' ended says (well is) uncut = is
came_uncut out out' ended says (failed is rose) uncut = absurd (uncut.written is)
came_uncut out out' ended says (wanting is) uncut = absurd (uncut.full is)

pub came_rose : (out out' : SinkState) (ended : RunEnd) (says : Status) → status_of ended ≢ status.Unwritten → Came out out' ended says → says ≡ status.Unwritten → Rose out.faults out'.faults
came_rose out out' ended says code (well is) unwritten = absurd (code (sym is ∙ unwritten))
came_rose out out' ended says code (failed is rose) unwritten = rose
came_rose out out' ended says code (wanting is) unwritten = let q : status.Memory ≡ status.Unwritten = sym is ∙ unwritten in absurd (cc)

pub came_failed : (out out' : SinkState) (ended : RunEnd) (says : Status) (grant : List ℕ) (op : OpName) → Came out out' ended says → says ≡ status.DeviceFailed grant op → status_of ended ≡ status.DeviceFailed grant op
came_failed out out' ended says grant op (well is) fails = sym is ∙ fails
came_failed out out' ended says grant op (failed is rose) fails = let q : status.Unwritten ≡ status.DeviceFailed grant op = sym is ∙ fails in absurd (cc)
came_failed out out' ended says grant op (wanting is) fails = let q : status.Memory ≡ status.DeviceFailed grant op = sym is ∙ fails in absurd (cc)

-- ---- the events

-- the first of events that keep to an authority keep to it
bounded_front : (authority : Call → List AtomName) (calls : List Call) (events later : List Event) → BoundedFrom authority calls (events ++ later) → BoundedFrom authority calls events
bounded_front authority calls [] later h = tt
bounded_front authority calls (Enter i b ∷ events) later h = bounded_front authority (record { instance = i; body = b } ∷ calls) events later h
bounded_front authority calls (Deed deed ∷ events) later h = (h.0, bounded_front authority calls events later h.1)
bounded_front authority [] (Leave ∷ events) later h = bounded_front authority [] events later h
bounded_front authority (call ∷ calls) (Leave ∷ events) later h = bounded_front authority calls events later h

are_of_run : (settings : Settings) (program : Program) → RunsAsMeant program → (events : List Event) → ((more : Tapes) → events ≡ (code_after settings program events more).events) → AreOfRun settings program events
are_of_run settings program laws events is = record {
  within = λ more few. is more ∙ ap (λ (r : RanCode). r.events) ((laws.follows settings.depth settings.steps (spliced (tapes_of events) more)).whole few);
  spent = λ more above. is more;
}

-- what was used in the first events of a program's meaning is within its authority
used_within : (program : Program) → RunsAsMeant program → (depth : ℕ) (events : List Event) → BeginsWith program depth events → (r : InstanceRow) → In r (authority_of program).rows → IsUsedWithin program events r
used_within program laws depth events begins =
    let first : IsPrefix events (course program depth (spliced (tapes_of events) no_tapes)).events = begins.first no_tapes in
    let all : Bounded (allowed program) (course program depth (spliced (tapes_of events) no_tapes)).events = laws.bounded depth (spliced (tapes_of events) no_tapes) in
    laws.used events (bounded_front (allowed program) [] events first.0 (subst (λ (es : List Event). Bounded (allowed program) es) first.1 all))

-- ---- the lines

-- nothing came to `out`, and nothing was run
pub used_none : (call : TopCall) (settings : Settings) (program : Program) → RunsAsMeant program → call.out_after ≡ call.out
    → (IsUncut call.status → ⊥) → (call.status ≡ status.Unwritten → MissesReport call (authority_text program)) → WritesUsed call settings program []
used_none call settings program laws out stopped why = record {
  front = [];
  rest = observed_text program [];
  split = refl;
  taken = ap (λ (s : SinkState). s.taken) out ∙ sym (gained-nil call.out.taken);
  within = laws.used [] tt;
  whole = λ uncut. absurd (stopped uncut);
  all = λ uncut. absurd (stopped uncut);
  begun = inl refl;
  cut = λ unwritten. inl (why unwritten);
}

-- a run of the program's code, whose events were kept
record IsRun (settings : Settings) (program : Program) (events : List Event) (ended : RunEnd) : Type 0 where
  within : (r : InstanceRow) → In r (authority_of program).rows → IsUsedWithin program events r
  all : ended ≢ end.Memory → AreOfRun settings program events
  code : status_of ended ≢ status.Unwritten

is_run : (settings : Settings) (program : Program) → RunsAsMeant program → (old new : DevicesState) (ended : RunEnd)
    → (runs : RunsMachine (lowered program (program_starts program)) settings.depth settings.steps old new ended) → IsRun settings program runs.events ended
is_run settings program laws old new ended runs = record {
  within = used_within program laws settings.depth runs.events (begins_with program laws settings.depth settings.steps runs.events ended runs.ends);
  all = λ full. are_of_run settings program laws runs.events (code_events program settings.depth settings.steps runs.events ended runs.ends full);
  code = written_code program settings.depth settings.steps runs.events ended runs.ends;
}

used_behind : (call : TopCall) (settings : Settings) (program : Program) (events : List Event) (ended : RunEnd) (wrote : Status) → IsRun settings program events ended → ended ≢ end.Memory
    → call.status ≡ behind wrote ended → Wrote (observed_text program events) call.out call.out_after wrote → WritesUsed call settings program events
used_behind call settings program events ended wrote run full same (whole written is) =
    let says : call.status ≡ status_of ended = same ∙ ap (λ (s : Status). behind s ended) is in
    record {
      front = written.front;
      rest = [];
      split = written.split;
      taken = written.taken;
      within = run.within;
      whole = λ _. refl;
      all = λ _. run.all full;
      begun = inr (run.all full);
      cut = λ unwritten. absurd (run.code (sym says ∙ unwritten));
    }
used_behind call settings program events ended wrote run full same (cut short rose is) =
    let says : call.status ≡ status.Unwritten = same ∙ ap (λ (s : Status). behind s ended) is in
    record {
      front = short.written.front;
      rest = short.rest;
      split = short.written.split;
      taken = short.written.taken;
      within = run.within;
      whole = λ uncut. absurd (uncut.written says);
      all = λ _. run.all full;
      begun = inr (run.all full);
      cut = λ _. inr (short.some, run.all full);
    }
used_behind call settings program events ended wrote run full same (starved rest written is) =
    let says : call.status ≡ status.Memory = same ∙ ap (λ (s : Status). behind s ended) is in
    record {
      front = written.front;
      rest = rest;
      split = written.split;
      taken = written.taken;
      within = run.within;
      whole = λ uncut. absurd (uncut.full says);
      all = λ _. run.all full;
      begun = inr (run.all full);
      cut = λ unwritten. let q : status.Memory ≡ status.Unwritten = sym says ∙ unwritten in absurd (cc);
    }

used_then : (call : TopCall) (settings : Settings) (program : Program) (events : List Event) (ended : RunEnd) → IsRun settings program events ended
    → ThenObserved (observed_text program events) call.out call.out_after ended call.status → WritesUsed call settings program events
used_then call settings program events ended run (unobserved is same) = record {
  front = [];
  rest = observed_text program events;
  split = refl;
  taken = ap (λ (s : SinkState). s.taken) same ∙ sym (gained-nil call.out.taken);
  within = run.within;
  whole = λ uncut. absurd (uncut.full is);
  all = λ uncut. absurd (uncut.full is);
  begun = inl refl;
  cut = λ unwritten. let q : status.Memory ≡ status.Unwritten = sym is ∙ unwritten in absurd (cc);
}
used_then call settings program events ended run (observed full wrote so says) = used_behind call settings program events ended wrote run full says so

-- a run that was begun is observed
pub writes_used : (call : TopCall) (settings : Settings) (program : Program) → RunsAsMeant program → (ended : RunEnd)
    → (runs : RunsMachine (lowered program (program_starts program)) settings.depth settings.steps call.devices call.devices_after ended)
    → ThenObserved (observed_text program runs.events) call.out call.out_after ended call.status → WritesUsed call settings program runs.events
writes_used call settings program laws ended runs so = used_then call settings program runs.events ended (is_run settings program laws call.devices call.devices_after ended runs) so
