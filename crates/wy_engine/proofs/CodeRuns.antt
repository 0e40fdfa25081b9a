-- A run of a program's code does what the program means: its events are the first of the meaning's over what was
-- answered, its deeds are all of the meaning's, and it ends as the meaning does or is spent.
use Rattle.std.proofs.Common.{◌≡◌, ◌≢◌, ◌⊎◌, inl, inr, ◌≤◌, ◌<◌, ℕ, List, [], ◌++◌, refl, sym, ◌∙◌, ap, subst, arith}
use Rattle.std.proofs.lemmas.Bool.{cases_lt}
use Rattle.std.proofs.lemmas.List.{append-nil}
use Rattle.wy_code.specs.Running.{Ran as RanCode, machine}
use Rattle.wy_device.specs.declared.deed.Event.{Event}
use Rattle.wy_device.specs.declared.operation.Kind.{Kind}
use Rattle.wy_device.specs.Events.{deeds_of}
use Rattle.wy_device.specs.RunEnds as ends
use Rattle.wy_device.specs.Tapes.{Tapes, answers, spliced}
use Rattle.wy_lower.specs.Correct.{Follows, IsPrefix}
use Rattle.wy_lower.specs.Lowering.{lowered}
use Rattle.wy_machine.specs.Runs.{EndsIn, RunsTo, tapes_of}
use Rattle.wy_machine.specs.Traces.{HappenedIn}
use Rattle.wy_machine.specs.declared.run_end.RunEnd.{RunEnd}
use Rattle.wy_machine.specs.declared.run_end.RunEnd.TheVariants as end
use Rattle.wy_machine.specs.TrapKinds.{trap_meant}
use Rattle.wy_meaning.specs.Laws.{IsCheap, TakesInOrder}
use Rattle.wy_meaning.specs.Start.{Course}
use Rattle.wy_sound.specs.Courses.{course}
use Rattle.wy_sound.specs.Programs.{program_starts}
use Rattle.wy_types.specs.Program.{Program}
use Rattle.wy_engine.specs.Headline.{EndsAs}
use Rattle.wy_engine.specs.ProgramLaws.{RunsAsMeant}
use Rattle.wy_engine.specs.Running.{status_of}
use Rattle.wy_engine.specs.Status.{IsOfEnd}
use Rattle.wy_engine.specs.declared.status.Status.{Status}
use Rattle.wy_engine.specs.declared.status.Status.TheVariants as status
use Rattle.wy_engine.proofs.Deeds.{deeds_of-append, none_later, tape_of-tapes_of}

-- ---- the first events of a meaning

-- the events of a run that follows a course are the first of the course's
first_of : (c : Course) (k : ℕ) (r : RanCode) (events : List Event) → Follows c k r → r.events ≡ events → IsPrefix events c.events
first_of c k r events follows tells = by (cases_lt k c.steps)
  where
    by : (k < c.steps) ⊎ (c.steps ≤ k) → IsPrefix events c.events
    by (inl cut) = subst (λ es. IsPrefix es c.events) tells (follows.cut cut).2
    by (inr whole) = ([], sym (ap (λ (s : RanCode). s.events) (follows.whole whole)) ∙ tells ∙ sym (append-nil events))

-- the events are the first ones over what was answered in them and any further answers
pub record BeginsWith (program : Program) (depth : ℕ) (events : List Event) : Type 0 where
  pub first : (more : Tapes) → IsPrefix events (course program depth (spliced (tapes_of events) more)).events

begins_to : (program : Program) → RunsAsMeant program → (depth k : ℕ) (events : List Event) (e : ends.RunEnd) → RunsTo (lowered program (program_starts program)) depth k events e → BeginsWith program depth events
begins_to program laws depth k events e to = record {
  first = λ more. first_of (course program depth (spliced (tapes_of events) more)) k _ events (laws.follows depth k (spliced (tapes_of events) more)) (to.tells more);
}

pub begins_with : (program : Program) → RunsAsMeant program → (depth k : ℕ) (events : List Event) (e : RunEnd) → EndsIn (lowered program (program_starts program)) depth k events e
    → BeginsWith program depth events
begins_with program laws depth k events end.Ended to = begins_to program laws depth k events ends.Ended to
begins_with program laws depth k events (end.Trap kind place) to = begins_to program laws depth k events (ends.Trap (trap_meant kind) place) to
begins_with program laws depth k events end.TooDeep to = begins_to program laws depth k events ends.TooDeep to
begins_with program laws depth k events end.Spent to = begins_to program laws depth k events ends.Spent to
begins_with program laws depth k events (end.DeviceFailed grant op) to = begins_to program laws depth k events (ends.DeviceFailed grant op) to
begins_with program laws depth k events end.SinkFailed to = absurd to
begins_with program laws depth k events end.Memory to = begins_to program laws depth to.0 events ends.Spent to.2

pub begins_happened : (program : Program) → RunsAsMeant program → (depth k : ℕ) (events : List Event) → HappenedIn (lowered program (program_starts program)) depth k events → BeginsWith program depth events
begins_happened program laws depth k events so = begins_to program laws depth so.steps events so.end so.runs

-- ---- all deeds of a meaning

-- over what was answered in its first events a meaning has no deeds but theirs
pub same_deeds : (program : Program) (depth : ℕ) → TakesInOrder depth program (program_starts program) → (events : List Event) → IsPrefix events (course program depth (tapes_of events)).events
    → (kind : Kind) → deeds_of kind (course program depth (tapes_of events)).events ≡ deeds_of kind events
same_deeds program depth ordered events first kind =
    let c : Course = course program depth (tapes_of events) in
    let deeds : deeds_of kind c.events ≡ deeds_of kind events ++ deeds_of kind first.0 = ap (λ es. deeds_of kind es) first.1 ∙ deeds_of-append kind events first.0 in
    let order = ordered (tapes_of events) kind in
    let given : answers (deeds_of kind events) ≡ answers (deeds_of kind events ++ deeds_of kind first.0) ++ order.0 =
    sym (tape_of-tapes_of kind events) ∙ order.1 ∙ ap (λ ds. answers ds ++ order.0) deeds in
    deeds ∙ ap (λ ds. deeds_of kind events ++ ds) (none_later (deeds_of kind events) (deeds_of kind first.0) order.0 given) ∙ append-nil (deeds_of kind events)

-- ---- the end of a meaning

ends_so : (c : Course) (k : ℕ) (r : RanCode) (e : ends.RunEnd) (s : Status) → Follows c k r → IsCheap c → r.end ≡ e → IsOfEnd s e → (e ≡ ends.Spent → s ≡ status.Spent) → EndsAs s k c
ends_so c k r e s follows cheap is of spent = record {
  whole = λ within. subst (λ (x : ends.RunEnd). IsOfEnd s x) (sym is ∙ ap (λ (t : RanCode). t.end) (follows.whole within)) of;
  spent = λ over. (spent (sym is ∙ (follows.cut over).0), omega (arith, cheap));
}

ends_to : (program : Program) → RunsAsMeant program → (depth k : ℕ) (events : List Event) (e : ends.RunEnd) (s : Status) → RunsTo (lowered program (program_starts program)) depth k events e
    → IsOfEnd s e → (e ≡ ends.Spent → s ≡ status.Spent) → (more : Tapes) → EndsAs s k (course program depth (spliced (tapes_of events) more))
ends_to program laws depth k events e s to of spent more =
    ends_so (course program depth (spliced (tapes_of events) more)) k _ e s (laws.follows depth k (spliced (tapes_of events) more)) (laws.cheap depth (spliced (tapes_of events) more)) (to.ends more) of spent

-- whatever would be answered further
pub ends_as : (program : Program) → RunsAsMeant program → (depth k : ℕ) (events : List Event) (e : RunEnd) → EndsIn (lowered program (program_starts program)) depth k events e
    → status_of e ≢ status.Memory → (more : Tapes) → EndsAs (status_of e) k (course program depth (spliced (tapes_of events) more))
ends_as program laws depth k events end.Ended to full = ends_to program laws depth k events ends.Ended status.Ended to refl (λ is. absurd (cc))
ends_as program laws depth k events (end.Trap kind place) to full = ends_to program laws depth k events (ends.Trap (trap_meant kind) place) (status.Trap kind place) to refl (λ is. absurd (cc))
ends_as program laws depth k events end.TooDeep to full = ends_to program laws depth k events ends.TooDeep status.TooDeep to refl (λ is. absurd (cc))
ends_as program laws depth k events end.Spent to full = ends_to program laws depth k events ends.Spent status.Spent to refl (λ is. refl)
ends_as program laws depth k events (end.DeviceFailed grant op) to full = ends_to program laws depth k events (ends.DeviceFailed grant op) (status.DeviceFailed grant op) to refl (λ is. absurd (cc))
ends_as program laws depth k events end.SinkFailed to full = absurd to
ends_as program laws depth k events end.Memory to full = absurd (full refl)

-- ---- the events of a run that nothing cut short

-- a run that is not spent has all events of the course that it follows
all_of : (c : Course) (k : ℕ) (r : RanCode) (events : List Event) (e : ends.RunEnd) → Follows c k r → r.events ≡ events → r.end ≡ e → e ≢ ends.Spent → events ≡ c.events
all_of c k r events e follows tells is unspent = by (cases_lt k c.steps)
  where
    by : (k < c.steps) ⊎ (c.steps ≤ k) → events ≡ c.events
    by (inl cut) = absurd (unspent (sym is ∙ (follows.cut cut).0))
    by (inr whole) = sym tells ∙ ap (λ (s : RanCode). s.events) (follows.whole whole)

all_to : (program : Program) → RunsAsMeant program → (depth k : ℕ) (events : List Event) (e : ends.RunEnd) → RunsTo (lowered program (program_starts program)) depth k events e → e ≢ ends.Spent
    → (more : Tapes) → events ≡ (course program depth (spliced (tapes_of events) more)).events
all_to program laws depth k events e to unspent more =
    all_of (course program depth (spliced (tapes_of events) more)) k _ events e (laws.follows depth k (spliced (tapes_of events) more)) (to.tells more) (to.ends more) unspent

pub all_events : (program : Program) → RunsAsMeant program → (depth k : ℕ) (events : List Event) (e : RunEnd) → EndsIn (lowered program (program_starts program)) depth k events e
    → status_of e ≢ status.Memory → status_of e ≢ status.Spent → (more : Tapes) → events ≡ (course program depth (spliced (tapes_of events) more)).events
all_events program laws depth k events end.Ended to full unspent = all_to program laws depth k events ends.Ended to (λ is. cc)
all_events program laws depth k events (end.Trap kind place) to full unspent = all_to program laws depth k events (ends.Trap (trap_meant kind) place) to (λ is. cc)
all_events program laws depth k events end.TooDeep to full unspent = all_to program laws depth k events ends.TooDeep to (λ is. cc)
all_events program laws depth k events end.Spent to full unspent = absurd (unspent refl)
all_events program laws depth k events (end.DeviceFailed grant op) to full unspent = all_to program laws depth k events (ends.DeviceFailed grant op) to (λ is. cc)
all_events program laws depth k events end.SinkFailed to full unspent = absurd to
all_events program laws depth k events end.Memory to full unspent = absurd (full refl)

-- .. and one that is spent those that its code has
pub spent_events : (program : Program) (depth k : ℕ) (events : List Event) (e : RunEnd) → EndsIn (lowered program (program_starts program)) depth k events e → status_of e ≡ status.Spent
    → (more : Tapes) → events ≡ (machine (lowered program (program_starts program)) depth k (spliced (tapes_of events) more)).events
spent_events program depth k events end.Ended to is = absurd (cc)
spent_events program depth k events (end.Trap kind place) to is = absurd (cc)
spent_events program depth k events end.TooDeep to is = absurd (cc)
spent_events program depth k events end.Spent to is = λ more. sym (to.tells more)
spent_events program depth k events (end.DeviceFailed grant op) to is = absurd (cc)
spent_events program depth k events end.SinkFailed to is = absurd to
spent_events program depth k events end.Memory to is = absurd (cc)

-- .. and so has each run that memory was not wanting for
pub code_events : (program : Program) (depth k : ℕ) (events : List Event) (e : RunEnd) → EndsIn (lowered program (program_starts program)) depth k events e → e ≢ end.Memory
    → (more : Tapes) → events ≡ (machine (lowered program (program_starts program)) depth k (spliced (tapes_of events) more)).events
code_events program depth k events end.Ended to full = λ more. sym (to.tells more)
code_events program depth k events (end.Trap kind place) to full = λ more. sym (to.tells more)
code_events program depth k events end.TooDeep to full = λ more. sym (to.tells more)
code_events program depth k events end.Spent to full = λ more. sym (to.tells more)
code_events program depth k events (end.DeviceFailed grant op) to full = λ more. sym (to.tells more)
code_events program depth k events end.SinkFailed to full = absurd to
code_events program depth k events end.Memory to full = absurd (full refl)

-- a run of code writes to no sink
pub written_code : (program : Program) (depth k : ℕ) (events : List Event) (e : RunEnd) → EndsIn (lowered program (program_starts program)) depth k events e → status_of e ≢ status.Unwritten
written_code program depth k events end.Ended to is = cc
written_code program depth k events (end.Trap kind place) to is = cc
written_code program depth k events end.TooDeep to is = cc
written_code program depth k events end.Spent to is = cc
written_code program depth k events (end.DeviceFailed grant op) to is = cc
written_code program depth k events end.SinkFailed to is = to
written_code program depth k events end.Memory to is = cc
