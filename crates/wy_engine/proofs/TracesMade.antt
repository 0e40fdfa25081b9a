-- What a call promises of the lines that a traced run wrote.
use Rattle.std.proofs.Common.{◌≡◌, ◌≢◌, ◌⊎◌, inl, inr, ℕ, List, [], ◌∷◌, ◌++◌, refl, sym, ◌∙◌, ap, subst}
use Rattle.std.proofs.lemmas.List.{append-nil}
use Rattle.wy_text.proofs.Gains.{gained-nil}
use Rattle.wy_text.specs.Outside.{Rose, SinkState, gained}
use Rattle.wy_device.specs.declared.deed.Event.{Event}
use Rattle.wy_lower.specs.Lowering.{lowered}
use Rattle.wy_machine.specs.Runs.{EndsIn}
use Rattle.wy_machine.specs.Traces.{EndsTraced, WroteAll, WroteSome}
use Rattle.wy_machine.specs.declared.run_end.RunEnd.{RunEnd}
use Rattle.wy_machine.specs.declared.run_end.RunEnd.TheVariants as end
use Rattle.wy_meaning.specs.EventLines.{event_lines}
use Rattle.wy_sound.specs.Programs.{program_starts}
use Rattle.wy_types.specs.Program.{Program}
use Rattle.wy_engine.specs.Headline.{BeginsLine, IsUncut, WritesEvents, none, some}
use Rattle.wy_engine.specs.ProgramLaws.{RunsAsMeant}
use Rattle.wy_engine.specs.Running.{TracesCode, status_of}
use Rattle.wy_settings.specs.Settings.{Settings}
use Rattle.wy_engine.specs.TopCall.{TopCall}
use Rattle.wy_engine.specs.declared.status.Status.{Status}
use Rattle.wy_engine.specs.declared.status.Status.TheVariants as status
use Rattle.wy_engine.proofs.CodeRuns.{BeginsWith, all_events, begins_happened, begins_with, spent_events}

-- ---- how a traced run ended

-- one that neither memory nor a write cut short ended as a run does, and wrote the lines of all its events
pub uncut_run : (program : Program) (depth k : ℕ) (events : List Event) (out out' : SinkState) (e : RunEnd) → EndsTraced (lowered program (program_starts program)) depth k events out out' e
    → IsUncut (status_of e) → EndsIn (lowered program (program_starts program)) depth k events e × WroteAll events out out'
uncut_run program depth k events out out' end.Ended to uncut = to
uncut_run program depth k events out out' (end.Trap kind place) to uncut = to
uncut_run program depth k events out out' end.TooDeep to uncut = to
uncut_run program depth k events out out' end.Spent to uncut = to
uncut_run program depth k events out out' (end.DeviceFailed grant op) to uncut = to
uncut_run program depth k events out out' end.SinkFailed to uncut = absurd (uncut.written refl)
uncut_run program depth k events out out' end.Memory to uncut = absurd (uncut.full refl)

-- its events are the first of the meaning's
pub begins_traced : (program : Program) → RunsAsMeant program → (depth k : ℕ) (events : List Event) (out out' : SinkState) (e : RunEnd)
    → EndsTraced (lowered program (program_starts program)) depth k events out out' e → BeginsWith program depth events
begins_traced program laws depth k events out out' end.Ended to = begins_with program laws depth k events end.Ended to.0
begins_traced program laws depth k events out out' (end.Trap kind place) to = begins_with program laws depth k events (end.Trap kind place) to.0
begins_traced program laws depth k events out out' end.TooDeep to = begins_with program laws depth k events end.TooDeep to.0
begins_traced program laws depth k events out out' end.Spent to = begins_with program laws depth k events end.Spent to.0
begins_traced program laws depth k events out out' (end.DeviceFailed grant op) to = begins_with program laws depth k events (end.DeviceFailed grant op) to.0
begins_traced program laws depth k events out out' end.SinkFailed to = begins_happened program laws depth k events to.0
begins_traced program laws depth k events out out' end.Memory to = begins_happened program laws depth k events to.0

-- a traced run whose status is Unwritten had a write to `out` fail
pub rose_traced : (program : Program) (depth k : ℕ) (events : List Event) (out out' : SinkState) (e : RunEnd) → EndsTraced (lowered program (program_starts program)) depth k events out out' e
    → status_of e ≡ status.Unwritten → Rose out.faults out'.faults
rose_traced program depth k events out out' end.Ended to is = absurd (cc)
rose_traced program depth k events out out' (end.Trap kind place) to is = absurd (cc)
rose_traced program depth k events out out' end.TooDeep to is = absurd (cc)
rose_traced program depth k events out out' end.Spent to is = absurd (cc)
rose_traced program depth k events out out' (end.DeviceFailed grant op) to is = absurd (cc)
rose_traced program depth k events out out' end.SinkFailed to is = to.2
rose_traced program depth k events out out' end.Memory to is = absurd (cc)

-- ---- the lines

-- which lines a run wrote that ended so, of the events that happened: all of them, where nothing cut it short
record Lines (events : List Event) (out out' : SinkState) (e : RunEnd) : Type 0 where
  whole : List Event
  part : List ℕ
  further : List Event
  split : events ≡ whole ++ further
  taken : out'.taken ≡ gained out.taken (event_lines whole ++ part)
  begun : BeginsLine part further
  uncut : IsUncut (status_of e) → further ≡ []

all_lines : (events : List Event) (out out' : SinkState) (e : RunEnd) → WroteAll events out out' → Lines events out out' e
all_lines events out out' e all = record {
  whole = events;
  part = [];
  further = [];
  split = sym (append-nil events);
  taken = all ∙ ap (λ x. gained out.taken x) (sym (append-nil (event_lines events)));
  begun = none refl;
  uncut = λ uncut. refl;
}

some_lines : (events : List Event) (out out' : SinkState) (e : RunEnd) → (IsUncut (status_of e) → ⊥) → WroteSome events out out' → Lines events out out' e
some_lines events out out' e cut so = record {
  whole = so.whole;
  part = so.part;
  further = so.event ∷ so.later;
  split = so.split;
  taken = so.taken;
  begun = some so.event so.later so.cut so.line so.short so.quiet;
  uncut = λ uncut. absurd (cut uncut);
}

either_lines : (events : List Event) (out out' : SinkState) → WroteAll events out out' ⊎ WroteSome events out out' → Lines events out out' end.Memory
either_lines events out out' (inl all) = all_lines events out out' end.Memory all
either_lines events out out' (inr so) = some_lines events out out' end.Memory (λ uncut. uncut.full refl) so

lines_of : (program : Program) (depth k : ℕ) (events : List Event) (out out' : SinkState) (e : RunEnd) → EndsTraced (lowered program (program_starts program)) depth k events out out' e
    → Lines events out out' e
lines_of program depth k events out out' end.Ended to = all_lines events out out' end.Ended to.1
lines_of program depth k events out out' (end.Trap kind place) to = all_lines events out out' (end.Trap kind place) to.1
lines_of program depth k events out out' end.TooDeep to = all_lines events out out' end.TooDeep to.1
lines_of program depth k events out out' end.Spent to = all_lines events out out' end.Spent to.1
lines_of program depth k events out out' (end.DeviceFailed grant op) to = all_lines events out out' (end.DeviceFailed grant op) to.1
lines_of program depth k events out out' end.SinkFailed to = some_lines events out out' end.SinkFailed (λ uncut. uncut.written refl) to.1
lines_of program depth k events out out' end.Memory to = either_lines events out out' to.1

-- ---- the whole call

pub writes_events : (call : TopCall) (settings : Settings) (program : Program) → RunsAsMeant program
    → (so : TracesCode (lowered program (program_starts program)) settings.depth settings.steps call.out call.out_after call.devices call.devices_after call.status) → WritesEvents call settings program so.runs.events
writes_events call settings program laws so =
    let events = so.runs.events in
    let lines : Lines events call.out call.out_after so.ended = lines_of program settings.depth settings.steps events call.out call.out_after so.ended so.runs.ends in
    let ended : (uncut : IsUncut call.status) → IsUncut (status_of so.ended) = λ uncut. subst (λ (s : Status). IsUncut s) so.says uncut in
    let run : (uncut : IsUncut call.status) → EndsIn (lowered program (program_starts program)) settings.depth settings.steps events so.ended = λ uncut.
    (uncut_run program settings.depth settings.steps events call.out call.out_after so.ended so.runs.ends (ended uncut)).0 in
    record {
      whole = lines.whole;
      part = lines.part;
      further = lines.further;
      split = lines.split;
      taken = lines.taken;
      begun = lines.begun;
      uncut = λ uncut. lines.uncut (ended uncut);
      all = λ uncut unspent. all_events program laws settings.depth settings.steps events so.ended (run uncut) (ended uncut).full (λ is. unspent (so.says ∙ is));
      spent = λ is. spent_events program settings.depth settings.steps events so.ended (run (spent_uncut call.status is)) (sym so.says ∙ is);
    }
  where
    spent_uncut : (s : Status) → s ≡ status.Spent → IsUncut s
    spent_uncut s is = record { full = λ other. let q : status.Spent ≡ status.Memory = sym is ∙ other in cc; written = λ other. let q : status.Spent ≡ status.Unwritten = sym is ∙ other in cc }

-- nothing was run
pub writes_none : (call : TopCall) (settings : Settings) (program : Program) → call.out_after ≡ call.out
    → (IsUncut call.status → ⊥) → call.status ≢ status.Spent → WritesEvents call settings program []
writes_none call settings program out cut unspent = record {
  whole = [];
  part = [];
  further = [];
  split = refl;
  taken = ap (λ (s : SinkState). s.taken) out ∙ sym (gained-nil call.out.taken);
  begun = none refl;
  uncut = λ uncut. refl;
  all = λ uncut spent. absurd (cut uncut);
  spent = λ is. absurd (unspent is);
}
