-- Where nothing fails outside, accepted texts come to their end.
use Rattle.std.proofs.Common.{◌≡◌, ◌≢◌, inl, inr, ◌≤◌, ◌<◌, ◌+◌, ◌*◌, ℕ, suc, List, Some, refl, sym, ◌∙◌, ap, subst, arith}
use Rattle.std.proofs.lemmas.Bool.{cases_lt}
use Rattle.wy_text.specs.Outside.{Rose}
use Rattle.wy_device.specs.Devices.{device_of}
use Rattle.wy_device.specs.Events.{TellsDeeds}
use Rattle.wy_device.specs.Operation.{kind_named}
use Rattle.wy_device.specs.declared.operation.Kind.{Kind}
use Rattle.wy_device.specs.declared.operation.OpName.{OpName}
use Rattle.wy_device.specs.RunEnds as ends
use Rattle.wy_device.specs.RunEnds.{RunEnd}
use Rattle.wy_device.specs.Tapes.{Tapes, tapes_between}
use Rattle.wy_code.specs.Running.{Ran, machine}
use Rattle.wy_code.specs.Laws.{SpentTakesAll}
use Rattle.wy_code.specs.declared.code.Code.{Code}
use Rattle.wy_lower.specs.Lowering.{lowered}
use Rattle.wy_machine.specs.Runs.{tapes_of}
use Rattle.wy_meaning.specs.Start.{Course}
use Rattle.wy_sound.specs.Courses.{course}
use Rattle.wy_sound.specs.Programs.{program_starts}
use Rattle.wy_syntax.specs.Canonical.{canonical_form}
use Rattle.wy_types.specs.Program.{Program}
use Rattle.wy_settings.specs.Settings.{Settings}
use Rattle.wy_settings.specs.declared.command_line.Command.{Command}
use Rattle.wy_settings.specs.declared.command_line.Command.TheVariants as command
use Rattle.wy_engine.specs.Completeness.{EndsAsMeant, HasNoFault, IsWritten, RunsEnd, WritesEnd}
use Rattle.wy_engine.specs.Headline.{Does, EndsAs, Headline, IsUncut, IsUnwritten, Runs, Writes, before_last_line}
use Rattle.wy_engine.specs.Judgement.{Asks, Did, accepted_text, allowed_text, authority_text, certified, checked, formatted, nothing, permitted, proved, ran, reported}
use Rattle.wy_engine.specs.Passing.{Passes}
use Rattle.wy_engine.specs.Certificates.{proved_text}
use Rattle.wy_engine.specs.ProgramLaws.{AcceptedRunAsMeant, RunsAsMeant}
use Rattle.wy_engine.specs.Status.{IsOfEnd, IsOfOut}
use Rattle.wy_engine.specs.Told.{course_in}
use Rattle.wy_engine.specs.Folders.{AsksCall}
use Rattle.wy_engine.specs.Given.{IsGiven}
use Rattle.wy_engine.specs.TopCall.{IsSet, TopCall}
use Rattle.wy_engine.specs.declared.status.Status.{Status}
use Rattle.wy_engine.specs.declared.status.Status.TheVariants as status
use Rattle.wy_certify.specs.CertificateLaws.{OneSize}
use Rattle.wy_well_formed.specs.WellFormed.{ResolvedIsCore}
use Rattle.wy_engine.proofs.Statuses.{memory_or}
use Rattle.wy_engine.proofs.TextsTold.{texts_told}
use Rattle.wy_engine.proofs.Deeds.{no_tapes, spliced-none, tapes_between-of}

-- ---- a meaning is not spent

-- a run of more steps than the meaning takes would end as the meaning does, and one that is spent takes them all
pub unspent : ((code : Code) → SpentTakesAll code) → (program : Program) → RunsAsMeant program → (depth : ℕ) (tapes : Tapes) → (course program depth tapes).end ≢ ends.Spent
unspent law program runs depth tapes is =
    let c : Course = course program depth tapes in
    let code : Code = lowered program (program_starts program) in
    let same : machine code depth (suc c.steps) tapes ≡ record { end = c.end; events = c.events; taken = c.steps } = (runs.follows depth (suc c.steps) tapes).whole (omega arith) in
    let spent : (machine code depth (suc c.steps) tapes).end ≡ ends.Spent = ap (λ (r : Ran). r.end) same ∙ is in
    let all : (machine code depth (suc c.steps) tapes).taken ≡ suc c.steps = law code depth (suc c.steps) tapes spent in
    let few : (machine code depth (suc c.steps) tapes).taken ≡ c.steps = ap (λ (r : Ran). r.taken) same in
    omega (arith, all, few)

-- ---- no fault

rose_on : (a b c : ℕ) → Rose a b → b ≤ c → Rose a c
rose_on a b c rose le = λ below. let less : a < b = rose below in omega arith

-- no fault was counted before the last line either
no_report : (call : TopCall) (h : Headline call) → HasNoFault call → ¬ Rose call.report.faults h.report.faults
no_report call h none rose = none.report (rose_on call.report.faults h.report.faults call.report_after.faults rose h.closes.counted)

-- ---- programs that run

unwritten_run : (call : TopCall) (named : Command) (rest : List ℕ) → ¬ Rose call.report.faults call.report_after.faults → ¬ Rose call.out.faults call.out_after.faults → ¬ IsUnwritten named call rest
unwritten_run call command.Check rest report out is = report is.rose
unwritten_run call command.Authority rest report out is = report is.rose
unwritten_run call command.Run rest report out is = report is.rose
unwritten_run call command.Trace rest report out (inl is) = report is.rose
unwritten_run call command.Observe rest report out (inl is) = report is.rose
unwritten_run call command.Trace rest report out (inr is) = out is.1
unwritten_run call command.Observe rest report out (inr is) = out is.1
unwritten_run call command.Sample rest report out (inl is) = report is.rose
unwritten_run call command.Sample rest report out (inr is) = out is.1
unwritten_run call command.Format rest report out is = report is.rose
unwritten_run call command.Policy rest report out is = report is.rose
unwritten_run call command.Certify rest report out is = report is.rose
unwritten_run call command.Recheck rest report out is = report is.rose

meant : (end : Status) (e : RunEnd) → IsOfEnd end e → e ≢ ends.Spent → ((grant : List ℕ) (op : OpName) → end ≢ status.DeviceFailed grant op) → EndsAsMeant end e
meant status.Ended e is unspent unfailed = is
meant status.Usage e is unspent unfailed = is
meant (status.Unread file) e is unspent unfailed = is
meant (status.Syntax place kind) e is unspent unfailed = is
meant (status.Refused fault) e is unspent unfailed = is
meant (status.Limit name) e is unspent unfailed = is
meant (status.Trap kind place) e is unspent unfailed = is
meant status.TooDeep e is unspent unfailed = is
meant status.Spent e is unspent unfailed = unspent is
meant (status.DeviceFailed grant op) e is unspent unfailed = unfailed grant op refl
meant status.Unwritten e is unspent unfailed = is
meant status.Memory e is unspent unfailed = is
meant (status.BadCert at) e is unspent unfailed = is
meant (status.Unproved scope test index) e is unspent unfailed = is
meant (status.Denied line instance atom) e is unspent unfailed = is
meant (status.BadPolicy line) e is unspent unfailed = is

passed : (named : Command) (texts : List (List ℕ)) (program : Program) → Asks named texts (ran program) → Passes texts program
passed command.Check texts program asks = absurd asks
passed command.Authority texts program asks = absurd asks
passed command.Run texts program asks = asks.passes
passed command.Trace texts program asks = asks.passes
passed command.Observe texts program asks = asks.passes
passed command.Sample texts program asks = asks.passes
passed command.Format texts program asks = absurd asks
passed command.Policy texts program asks = absurd asks
passed command.Certify texts program asks = absurd asks
passed command.Recheck texts program asks = absurd asks

-- what is settled of a program that ran ends as it is meant
settled_run : ((code : Code) → SpentTakesAll code) → (call : TopCall) (settings : Settings) → IsSet call settings → (program : Program) → RunsAsMeant program → Runs call program → TellsDeeds call.devices
    → ¬ Rose call.report.faults call.report_after.faults → ¬ Rose call.out.faults call.out_after.faults
    → ((kind : Kind) → ¬ Rose (device_of call.devices kind).faults (device_of call.devices_after kind).faults)
    → call.status ≢ status.Memory → 4 * (course_in call settings program).nodes + 4 ≤ settings.steps
    → EndsAsMeant call.status (course_in call settings program).end
settled_run law call settings set program meant_so run tells report out devices full bound =
    let both : Some run.asked.settings ≡ Some settings = sym run.asked.set ∙ set in
    let one : run.asked.settings ≡ settings = cc in
    let uncut : IsUncut call.status = record { full = full; written = λ is. unwritten_run call run.asked.settings.command run.printed.rest report out (run.printed.proper is) } in
    let answered : tapes_between call.devices call.devices_after ≡ tapes_of run.events = tapes_between-of call.devices call.devices_after run.events tells run.did in
    let given : EndsAs call.status run.asked.settings.steps (course_in call run.asked.settings program) =
    subst (λ (t : Tapes). EndsAs call.status run.asked.settings.steps (course program run.asked.settings.depth t)) (spliced-none (tapes_of run.events) ∙ sym answered) (run.ends uncut no_tapes) in
    let so : EndsAs call.status settings.steps (course_in call settings program) =
    subst (λ (s : Settings). EndsAs call.status s.steps (course_in call s program)) one given in
    let c : Course = course_in call settings program in
    let within : c.steps ≤ settings.steps = elim (cases_lt settings.steps c.steps) [
      | inl more ↦ let small : settings.steps < 4 * c.nodes = (so.spent more).1 in absurd (omega arith)
      | inr few ↦ few
    ] in
    meant call.status c.end (so.whole within) (unspent law program meant_so settings.depth _) (λ grant op is. devices (kind_named op) (run.failed grant op is))

-- what was settled was done, unless memory was wanting
settled_did : ResolvedIsCore → OneSize → (call : TopCall) (h : Headline call) → HasNoFault call → (asked : Settings) (texts : List (List ℕ)) → IsGiven call asked texts → (did : Did) → AsksCall asked texts did
    → h.settled ≢ status.Memory → h.settles.did ≡ did
settled_did law size call h none asked texts given did asks full =
    let before : TopCall = before_last_line call h.settled h.report in
    let unread : (file : ℕ) → before.status ≢ status.Unread file = λ file is. none.shelf (h.settles.reads.counted file is) in
    let given_before : IsGiven before asked texts = record { set = given.set; few = given.few; are = given.are } in
    (texts_told law size before h.settles asked texts given_before unread).does did asks full

pub runs_end : ResolvedIsCore → OneSize → ((code : Code) → SpentTakesAll code) → AcceptedRunAsMeant → RunsEnd
runs_end core size law accepted call h none tells asked texts given program asks bound =
    elim h.closes.kept [
      | inr memory ↦ inl memory
      | inl same ↦ elim (memory_or h.settled) [
        | inl memory ↦ inl (same ∙ memory)
        | inr full ↦
            let run : Runs (before_last_line call h.settled h.report) program =
            subst (λ (d : Did). Does (before_last_line call h.settled h.report) d) (settled_did core size call h none asked texts given (ran program) asks full) h.settles.does in
            inr (subst (λ (s : Status). EndsAsMeant s (course_in call asked program).end) (sym same)
            (settled_run law (before_last_line call h.settled h.report) asked given.set program (accepted texts program (passed asked.command texts program asks.files)) run tells
            (no_report call h none) none.out none.devices full bound))
      ]
    ]

-- ---- the other commands

out_ended : (s : Status) → IsOfOut s → s ≢ status.Unwritten → s ≢ status.Memory → s ≡ status.Ended
out_ended status.Ended out written full = refl
out_ended status.Usage out written full = absurd out
out_ended (status.Unread file) out written full = absurd out
out_ended (status.Syntax place kind) out written full = absurd out
out_ended (status.Refused fault) out written full = absurd out
out_ended (status.Limit name) out written full = absurd out
out_ended (status.Trap kind place) out written full = absurd out
out_ended status.TooDeep out written full = absurd out
out_ended status.Spent out written full = absurd out
out_ended (status.DeviceFailed grant op) out written full = absurd out
out_ended status.Unwritten out written full = absurd (written refl)
out_ended status.Memory out written full = absurd (full refl)
out_ended (status.BadCert at) out written full = absurd out
out_ended (status.Unproved scope test index) out written full = absurd out
out_ended (status.Denied line instance atom) out written full = absurd out
out_ended (status.BadPolicy line) out written full = absurd out

written_ended : (call : TopCall) (named : Command) (text : List ℕ) → Writes call named text → ¬ Rose call.out.faults call.out_after.faults → call.status ≢ status.Memory → call.status ≡ status.Ended
written_ended call named text writes out full = out_ended call.status writes.reached (λ is. out (writes.proper is).1) full

settled_written : (call : TopCall) (did : Did) → Does call did → IsWritten did → ¬ Rose call.out.faults call.out_after.faults → call.status ≢ status.Memory → call.status ≡ status.Ended
settled_written call nothing does written out full = absurd written
settled_written call checked does written out full = written_ended call command.Check accepted_text does out full
settled_written call (reported program) does written out full = written_ended call command.Authority (authority_text program) does out full
settled_written call (ran program) does written out full = absurd written
settled_written call (formatted tree) does written out full = written_ended call command.Format (canonical_form tree) does out full
settled_written call permitted does written out full = written_ended call command.Policy allowed_text does out full
settled_written call (certified program) does written out full = written_ended call command.Certify does.0 does.2 out full
settled_written call (proved program) does written out full = written_ended call command.Recheck proved_text does.1 out full

pub writes_end : ResolvedIsCore → OneSize → WritesEnd
writes_end core size call h none asked texts given did written asks =
    elim h.closes.kept [
      | inr memory ↦ inl memory
      | inl same ↦ elim (memory_or h.settled) [
        | inl memory ↦ inl (same ∙ memory)
        | inr full ↦ inr (same ∙ settled_written (before_last_line call h.settled h.report) did
            (subst (λ (d : Did). Does (before_last_line call h.settled h.report) d) (settled_did core size call h none asked texts given did asks full) h.settles.does) written none.out full)
      ]
    ]
