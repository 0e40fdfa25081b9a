-- A run over devices that tell their deeds is one of what they told.
use Rattle.std.proofs.Common.{◌≡◌, ℕ, ◌++◌, sym, ◌∙◌, ap, subst}
use Rattle.wy_device.specs.Events.{DidExactly, TellsDeeds, deeds_of}
use Rattle.wy_device.specs.Tapes.{Tapes, answers, new_deeds_of, spliced, tapes_between}
use Rattle.wy_lower.specs.Correct.{IsPrefix}
use Rattle.wy_machine.specs.Runs.{tapes_of}
use Rattle.wy_meaning.specs.Laws.{TakesInOrder}
use Rattle.wy_meaning.specs.Starts.{Starts}
use Rattle.wy_sound.specs.Courses.{course}
use Rattle.wy_sound.specs.Programs.{program_starts}
use Rattle.wy_types.specs.Program.{Program}
use Rattle.wy_engine.specs.Headline.{EndsAs, Runs}
use Rattle.wy_device.specs.declared.operation.Kind.{Kind}
use Rattle.wy_engine.specs.TopCall.{TopCall}
use Rattle.wy_engine.specs.Told.{DidFirst, IsTold, IsToldOf, RunsAreTold, TellsKind, course_of}
use Rattle.wy_engine.proofs.CodeRuns.{same_deeds}
use Rattle.wy_engine.proofs.Deeds.{deeds_of-append, did_same, new_deeds_are, new_deeds_of_kind, no_tapes, spliced-none, tape_of-tapes_of, tapes_between-of}

-- the events are the first of the meaning's over the answers in them
begins : (call : TopCall) (program : Program) (run : Runs call program) → IsPrefix run.events (course_of call program run).events
begins call program run = subst (λ (t : Tapes). IsPrefix run.events (course program run.asked.settings.depth t).events) (spliced-none (tapes_of run.events)) (run.first no_tapes)

one_told : ((depth : ℕ) (p : Program) (s : Starts) → TakesInOrder depth p s) → (call : TopCall) (program : Program) (run : Runs call program) (kind : Kind) → TellsKind call.devices kind → IsToldOf call program run kind
one_told ordered call program run kind tells =
    let depth : ℕ = run.asked.settings.depth in
    let deeds : new_deeds_of kind call.devices call.devices_after ≡ deeds_of kind run.events = new_deeds_of_kind kind call.devices call.devices_after run.events tells run.did in
    let same : deeds_of kind (course program depth (tapes_of run.events)).events ≡ deeds_of kind run.events = same_deeds program depth (ordered depth program (program_starts program)) run.events (begins call program run) kind in
    record {
      deeds = deeds;
      answered = tape_of-tapes_of kind run.events ∙ ap answers (sym deeds);
      operations = deeds ∙ sym same;
      prefix = λ more. let first = run.first more in
          (deeds_of kind first.0, ap (λ es. deeds_of kind es) first.1 ∙ deeds_of-append kind run.events first.0 ∙ ap (λ ds. ds ++ deeds_of kind first.0) (sym deeds));
    }

all_told : ((depth : ℕ) (p : Program) (s : Starts) → TakesInOrder depth p s) → (call : TopCall) (program : Program) (run : Runs call program) → TellsDeeds call.devices → IsTold call program run
all_told ordered call program run tells =
    let depth : ℕ = run.asked.settings.depth in
    let answered : tapes_between call.devices call.devices_after ≡ tapes_of run.events = tapes_between-of call.devices call.devices_after run.events tells run.did in
    let first : IsPrefix run.events (course program depth (tapes_of run.events)).events = begins call program run in
    record {
      answered = answered;
      first = subst (λ (t : Tapes). IsPrefix run.events (course program depth t).events) (sym answered) first;
      operations = subst (λ (t : Tapes). DidExactly call.devices call.devices_after (course program depth t).events) (sym answered)
          (did_same call.devices call.devices_after run.events (course program depth (tapes_of run.events)).events
          (same_deeds program depth (ordered depth program (program_starts program)) run.events first) run.did);
      prefix = λ kind more. let begins = run.first more in
          subst (λ (t : Tapes). DidFirst kind call (deeds_of kind (course program depth (spliced t more)).events)) (sym answered) (
            deeds_of kind begins.0,
            ap (λ es. deeds_of kind es) begins.1 ∙ deeds_of-append kind run.events begins.0
                ∙ ap (λ ds. ds ++ deeds_of kind begins.0) (sym (new_deeds_are kind call.devices call.devices_after run.events tells run.did)),
          );
      ends = λ uncut. subst (λ (t : Tapes). EndsAs call.status run.asked.settings.steps (course program depth t)) (spliced-none (tapes_of run.events) ∙ sym answered) (run.ends uncut no_tapes);
    }

pub run_told : ((depth : ℕ) (p : Program) (s : Starts) → TakesInOrder depth p s) → RunsAreTold
run_told ordered = record { each = one_told ordered; all = all_told ordered }
