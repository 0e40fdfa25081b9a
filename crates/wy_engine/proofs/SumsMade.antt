-- What came to `out` behind the run of a sample.
use Rattle.std.proofs.Common.{◌≡◌, ◌≢◌, inl, inr, ◌≤◌, ℕ, List, [], Some, refl, sym, ◌∙◌, ap, subst}
use Rattle.std.proofs.lemmas.Bool.{cases_lt}
use Rattle.wy_text.specs.Outside.{Rose, SinkState}
use Rattle.wy_text.proofs.Gains.{gained-nil}
use Rattle.wy_device.specs.Tapes.{Tapes}
use Rattle.wy_device.specs.declared.deed.Event.{Event}
use Rattle.wy_device.specs.declared.operation.OpName.{OpName}
use Rattle.wy_machine.specs.declared.run_end.RunEnd.{RunEnd}
use Rattle.wy_machine.specs.declared.run_end.RunEnd.TheVariants as end
use Rattle.wy_types.specs.Program.{Program}
use Rattle.wy_settings.specs.Settings.{Settings, sample_number}
use Rattle.wy_engine.specs.Headline.{EndsAs, HasEnded, IsUncut, MissesReport, SumsUp, meant_after}
use Rattle.wy_engine.specs.Judgement.{authority_text, summary_text}
use Rattle.wy_engine.specs.Running.{ThenWrote, skipped, status_of, summed}
use Rattle.wy_engine.specs.TopCall.{TopCall}
use Rattle.wy_engine.specs.Writing.{Wrote, cut, starved, whole}
use Rattle.wy_engine.specs.declared.status.Status.{Status}
use Rattle.wy_engine.specs.declared.status.Status.TheVariants as status

-- ---- a text that was written

pub rose_wrote : (text : List ℕ) (out out' : SinkState) (s : Status) → Wrote text out out' s → s ≡ status.Unwritten → Rose out.faults out'.faults
rose_wrote text out out' s (whole written is) unwritten = let q : status.Ended ≡ status.Unwritten = sym is ∙ unwritten in absurd (cc)
rose_wrote text out out' s (cut short rose is) unwritten = rose
rose_wrote text out out' s (starved rest written is) unwritten = let q : status.Memory ≡ status.Unwritten = sym is ∙ unwritten in absurd (cc)

pub unfailed_wrote : (text : List ℕ) (out out' : SinkState) (s : Status) → Wrote text out out' s → (grant : List ℕ) (op : OpName) → s ≢ status.DeviceFailed grant op
unfailed_wrote text out out' s (whole written is) grant op failed = let q : status.Ended ≡ status.DeviceFailed grant op = sym is ∙ failed in cc
unfailed_wrote text out out' s (cut short rose is) grant op failed = let q : status.Unwritten ≡ status.DeviceFailed grant op = sym is ∙ failed in cc
unfailed_wrote text out out' s (starved rest written is) grant op failed = let q : status.Memory ≡ status.DeviceFailed grant op = sym is ∙ failed in cc

pub ended_wrote : (text : List ℕ) (out out' : SinkState) (s : Status) → Wrote text out out' s → s ≢ status.Memory → s ≢ status.Unwritten → s ≡ status.Ended
ended_wrote text out out' s (whole written is) full uncut = is
ended_wrote text out out' s (cut short rose is) full uncut = absurd (uncut is)
ended_wrote text out out' s (starved rest written is) full uncut = absurd (full is)

-- ---- a run that ended

pub uncut_ended : (e : RunEnd) → e ≡ end.Ended → IsUncut (status_of e)
uncut_ended e is = subst (λ (x : RunEnd). IsUncut (status_of x)) (sym is) (record { full = λ other. cc; written = λ other. cc })

pub ended_by : (settings : Settings) (program : Program) (events : List Event) → ((more : Tapes) → EndsAs status.Ended settings.steps (meant_after settings program events more)) → HasEnded settings program events
ended_by settings program events ends = record { within = within; ended = λ more. (ends more).whole (within more) }
  where
    within : (more : Tapes) → (meant_after settings program events more).steps ≤ settings.steps
    within more = elim (cases_lt settings.steps (meant_after settings program events more).steps) [
      | inl above ↦ let q : status.Ended ≡ status.Spent = ((ends more).spent above).0 in absurd (cc)
      | inr few ↦ few
    ]

-- ---- the line behind it

-- nothing came to `out`, and the run did not end well
pub sums_none : (call : TopCall) (settings : Settings) (program : Program) (number : ℕ) → sample_number settings.files ≡ Some number → call.out_after ≡ call.out → call.status ≢ status.Ended
    → (call.status ≡ status.Unwritten → MissesReport call (authority_text program)) → SumsUp call settings program []
sums_none call settings program number is out other why = record {
  number = number;
  is = is;
  front = [];
  rest = summary_text number program;
  split = refl;
  taken = ap (λ (s : SinkState). s.taken) out ∙ sym (gained-nil call.out.taken);
  whole = λ ended. absurd (other ended);
  others = λ uncut ended. refl;
  begun = inl refl;
  cut = λ unwritten. inl (why unwritten);
}

wrote_by : (call : TopCall) (settings : Settings) (program : Program) (events : List Event) (number : ℕ) → sample_number settings.files ≡ Some number → HasEnded settings program events
    → Wrote (summary_text number program) call.out call.out_after call.status → SumsUp call settings program events
wrote_by call settings program events number is finished (whole written ended) = record {
  number = number;
  is = is;
  front = written.front;
  rest = [];
  split = written.split;
  taken = written.taken;
  whole = λ _. refl;
  others = λ uncut other. absurd (other ended);
  begun = inr finished;
  cut = λ unwritten. let q : status.Ended ≡ status.Unwritten = sym ended ∙ unwritten in absurd (cc);
}
wrote_by call settings program events number is finished (cut short rose unwritten) = record {
  number = number;
  is = is;
  front = short.written.front;
  rest = short.rest;
  split = short.written.split;
  taken = short.written.taken;
  whole = λ ended. let q : status.Unwritten ≡ status.Ended = sym unwritten ∙ ended in absurd (cc);
  others = λ uncut other. absurd (uncut.written unwritten);
  begun = inr finished;
  cut = λ _. inr (short.some, finished);
}
wrote_by call settings program events number is finished (starved rest written wanting) = record {
  number = number;
  is = is;
  front = written.front;
  rest = rest;
  split = written.split;
  taken = written.taken;
  whole = λ ended. let q : status.Memory ≡ status.Ended = sym wanting ∙ ended in absurd (cc);
  others = λ uncut other. absurd (uncut.full wanting);
  begun = inr finished;
  cut = λ unwritten. let q : status.Memory ≡ status.Unwritten = sym wanting ∙ unwritten in absurd (cc);
}

not_ended : (e : RunEnd) → e ≢ end.Ended → status_of e ≢ status.Ended
not_ended end.Ended other is = other refl
not_ended (end.Trap kind place) other is = cc
not_ended end.TooDeep other is = cc
not_ended end.Spent other is = cc
not_ended (end.DeviceFailed grant op) other is = cc
not_ended end.SinkFailed other is = cc
not_ended end.Memory other is = cc

pub sums_by : (call : TopCall) (settings : Settings) (program : Program) (events : List Event) (number : ℕ) → sample_number settings.files ≡ Some number → (ended : RunEnd)
    → ThenWrote (summary_text number program) call.out call.out_after ended call.status → (ended ≡ end.Ended → HasEnded settings program events)
    → (call.status ≡ status.Unwritten → status_of ended ≢ status.Unwritten) → SumsUp call settings program events
sums_by call settings program events number is ended (summed ok wrote) finished unwritten = wrote_by call settings program events number is (finished ok) wrote
sums_by call settings program events number is ended (skipped other same says) finished unwritten = record {
  number = number;
  is = is;
  front = [];
  rest = summary_text number program;
  split = refl;
  taken = ap (λ (s : SinkState). s.taken) same ∙ sym (gained-nil call.out.taken);
  whole = λ well. absurd (not_ended ended other (sym says ∙ well));
  others = λ uncut well. refl;
  begun = inl refl;
  cut = λ cut. absurd (unwritten cut (sym says ∙ cut));
}
