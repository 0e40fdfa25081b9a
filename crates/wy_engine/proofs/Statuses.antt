-- Which statuses come when: once files were read, of texts that stop a call, of a run, and of what was written.
use Rattle.std.proofs.Common.{◌≡◌, ◌≢◌, ◌⊎◌, inl, inr, ℕ, List, [], ◌∷◌, Some, None, Bool, true, false, nat_lt, if◌then◌else◌, refl, sym, ◌∙◌, subst}
use Rattle.wy_text.specs.LimitName.{limit_number}
use Rattle.wy_text.specs.Outside.{SinkState}
use Rattle.wy_text.specs.declared.limit.LimitName.TheVariants as limit
use Rattle.wy_code.specs.declared.code.Code.{Code}
use Rattle.wy_device.specs.Devices.{DevicesState}
use Rattle.wy_device.specs.declared.deed.Event.{Event}
use Rattle.wy_lower.specs.Counts.{body_count, lowering_limit, some_slots_above}
use Rattle.wy_lower.specs.Lowering.{lowered, scopes_bodies}
use Rattle.wy_machine.specs.declared.run_end.RunEnd.{RunEnd}
use Rattle.wy_machine.specs.declared.run_end.RunEnd.TheVariants as end
use Rattle.wy_meaning.specs.Starts.{Starts}
use Rattle.wy_sound.specs.Programs.{program_starts}
use Rattle.wy_types.specs.Program.{Program}
use Rattle.wy_rules.specs.Ends.{FirstEnd, IsEnd, IsLimitEnd, limited}
use Rattle.wy_rules.specs.Refusals.{Numbered}
use Rattle.wy_authority.specs.Authority.{authority_of}
use Rattle.wy_authority.specs.declared.rows.Authority.{Authority}
use Rattle.wy_engine.specs.Certificates.{Disproves}
use Rattle.wy_engine.specs.Folders.{StopsCall, by_files, by_folders}
use Rattle.wy_engine.specs.Judgement.{Refuses, Stage, Stops, StopsLimited, StopsTexts, StopsUnnamed, by_certificate, by_length, by_policy, by_size, by_texts, judging, lowering, naming, observed_text, parsing, stage_of}
use Rattle.wy_engine.specs.Running.{ObservesCode, Ran, ThenObserved, ThenWrote, begun, behind, observed, performed, skipped, status_of, stopped, summary_in, summed, unbegun, unobserved}
use Rattle.wy_engine.specs.Status.{IsOfOut, IsOfRun, IsOfTexts}
use Rattle.wy_engine.specs.Writing.{Wrote, cut, starved, whole}
use Rattle.wy_settings.specs.Settings.{Settings, texts_among}
use Rattle.wy_settings.specs.declared.command_line.Command.{Command}
use Rattle.wy_engine.specs.declared.running.Mode.{Mode}
use Rattle.wy_engine.specs.declared.running.Mode.TheVariants as mode
use Rattle.wy_engine.specs.declared.status.Status.{Status}
use Rattle.wy_engine.specs.declared.status.Status.TheVariants as status
use Rattle.wy_engine.proofs.NamesJudged.{uncrowded}
use Rattle.wy_engine.proofs.OneAnswer.{never}
use Rattle.wy_engine.proofs.PolicyAnswers.{uncrowded_policy}

-- ---- the limit on files is not one of judging programs

first_files : (program : Program) (ns : List Numbered) → FirstEnd program ns (limited limit.Files) → ⊥
first_files program [] first = first
first_files program (n ∷ ns) (inl here) = let e : limit.Files ≡ limit.ReachedTypes = here.0 in cc
first_files program (n ∷ ns) (inr later) = first_files program ns later.1

many_files : (program : Program) (ns : List Numbered) → IsLimitEnd program ns (limited limit.Files) → ⊥
many_files program ns (inl types) = let e : limit.Files ≡ limit.ReachedTypes = types.0 in cc
many_files program ns (inr instances) = let e : limit.Files ≡ limit.Instances = instances.1 in cc

ends_uncrowded : (program : Program) → IsEnd program (limited limit.Files) → ⊥
ends_uncrowded program (inl plain) = first_files program _ plain
ends_uncrowded program (inr rest) =
    elim rest.1 [
      | inl others ↦ first_files program _ others
      | inr limits ↦ elim limits.1 [
        | inl many ↦ many_files program _ many
        | inr last ↦ elim last.1 [ inl line ↦ line | inr body ↦ body.1 ]
      ]
    ]

-- ---- when a status comes

-- a status that comes once the files were read
pub record IsPastReading (end : Status) : Type 0 where
  pub unread : (file : ℕ) → end ≢ status.Unread file
  pub crowd : end ≢ status.Limit limit.Files

unnamed_uncrowded : (texts : List (List ℕ)) → StopsUnnamed texts limit.Files → ⊥
unnamed_uncrowded texts (inl none) = never (status.Limit limit.Files) (λ file bytes h. h) 1 texts none
unnamed_uncrowded texts (inr stop) = uncrowded texts stop

limited_uncrowded : (texts : List (List ℕ)) → StopsLimited texts limit.Files → ⊥
limited_uncrowded texts (inl stop) = unnamed_uncrowded texts stop
limited_uncrowded texts (inr stop) = ends_uncrowded stop.program stop.ends

-- .. nor of lowering
lowers_uncrowded : (p : Program) (starts : Starts) → lowering_limit p starts ≡ Some limit.Files → ⊥
lowers_uncrowded p starts is = by (nat_lt (limit_number limit.Bodies) (body_count p.scopes)) (some_slots_above (limit_number limit.Slots) (scopes_bodies p starts p.scopes)) is
  where
    by : (bodies slots : Bool) → (if bodies then Some limit.Bodies else if slots then Some limit.Slots else None) ≡ Some limit.Files → ⊥
    by true slots same = cc
    by false true same = cc
    by false false same = cc

crowds_none : (stage : Stage) (texts : List (List ℕ)) → StopsTexts stage texts (status.Limit limit.Files) → ⊥
crowds_none parsing texts none = never (status.Limit limit.Files) (λ file bytes h. h) 1 texts none
crowds_none naming texts stop = unnamed_uncrowded texts stop
crowds_none judging texts stop = limited_uncrowded texts stop
crowds_none lowering texts (inl stop) = limited_uncrowded texts stop
crowds_none lowering texts (inr stop) = lowers_uncrowded stop.program (program_starts stop.program) stop.passed

texts_past : (stage : Stage) (texts : List (List ℕ)) (end : Status) → StopsTexts stage texts end → IsPastReading end
texts_past stage texts end stops = record {
  unread = λ file is. subst (λ (s : Status). StopsTexts stage texts s) is stops;
  crowd = λ is. crowds_none stage texts (subst (λ (s : Status). StopsTexts stage texts s) is stops);
}

policy_past : (bytes : List ℕ) (a : Authority) (end : Status) → Refuses bytes a end → IsPastReading end
policy_past bytes a end refuses = record {
  unread = λ file is. subst (λ (s : Status). Refuses bytes a s) is refuses;
  crowd = λ is. uncrowded_policy bytes a (subst (λ (s : Status). Refuses bytes a s) is refuses);
}

certificate_past : (bytes : List ℕ) (program : Program) (end : Status) → Disproves bytes program end → IsPastReading end
certificate_past bytes program end disproves = record {
  unread = λ file is. subst (λ (s : Status). Disproves bytes program s) is disproves;
  crowd = λ is. subst (λ (s : Status). Disproves bytes program s) is disproves;
}

-- the limit on a certificate's bytes is not the one on files
size_past : (end : Status) → end ≡ status.Limit limit.CertificateBytes → IsPastReading end
size_past end is = record {
  unread = λ file other. let e : status.Limit limit.CertificateBytes ≡ status.Unread file = sym is ∙ other in cc;
  crowd = λ other. let e : status.Limit limit.CertificateBytes ≡ status.Limit limit.Files = sym is ∙ other in cc;
}

stops_past : (asked : Command) (files : List (List ℕ)) (end : Status) → Stops asked files end → IsPastReading end
stops_past asked files end (by_size recheck large is) = size_past end is
stops_past asked files end (by_texts none stops) = texts_past (stage_of asked) (texts_among asked files) end stops
stops_past asked files end (by_policy policy stops) = policy_past stops.under.policy (authority_of stops.under.program) end stops.refuses
stops_past asked files end (by_length certify long is) = size_past end is
stops_past asked files end (by_certificate recheck stops) = certificate_past stops.resolve.under.bytes stops.program end stops.disproves

pub run_past : (end : Status) → IsOfRun end → IsPastReading end
run_past end run = record { unread = λ file is. subst IsOfRun is run; crowd = λ is. subst IsOfRun is run }

pub out_past : (end : Status) → IsOfOut end → IsPastReading end
out_past end out = record { unread = λ file is. subst IsOfOut is out; crowd = λ is. subst IsOfOut is out }

texts_idle : (stage : Stage) (texts : List (List ℕ)) (end : Status) → StopsTexts stage texts end → ¬ IsOfRun end
texts_idle stage texts status.Ended stops run = stops
texts_idle stage texts status.Usage stops run = run
texts_idle stage texts (status.Unread file) stops run = run
texts_idle stage texts (status.Syntax place kind) stops run = run
texts_idle stage texts (status.Refused fault) stops run = run
texts_idle stage texts (status.Limit name) stops run = run
texts_idle stage texts (status.Trap kind place) stops run = stops
texts_idle stage texts status.TooDeep stops run = stops
texts_idle stage texts status.Spent stops run = stops
texts_idle stage texts (status.DeviceFailed grant op) stops run = stops
texts_idle stage texts status.Unwritten stops run = stops
texts_idle stage texts status.Memory stops run = stops
texts_idle stage texts (status.BadCert at) stops run = run
texts_idle stage texts (status.Unproved scope test index) stops run = run
texts_idle stage texts (status.Denied line instance atom) stops run = run
texts_idle stage texts (status.BadPolicy line) stops run = run

policy_idle : (bytes : List ℕ) (a : Authority) (end : Status) → Refuses bytes a end → ¬ IsOfRun end
policy_idle bytes a (status.Limit name) refuses run = run
policy_idle bytes a (status.BadPolicy line) refuses run = run
policy_idle bytes a (status.Denied line instance atom) refuses run = run
policy_idle bytes a other refuses run = refuses

certificate_idle : (bytes : List ℕ) (program : Program) (end : Status) → Disproves bytes program end → ¬ IsOfRun end
certificate_idle bytes program (status.BadCert at) disproves run = run
certificate_idle bytes program (status.Unproved scope test index) disproves run = run
certificate_idle bytes program other disproves run = disproves

size_idle : (end : Status) → end ≡ status.Limit limit.CertificateBytes → ¬ IsOfRun end
size_idle end is run = subst IsOfRun is run

stops_idle : (asked : Command) (files : List (List ℕ)) (end : Status) → Stops asked files end → ¬ IsOfRun end
stops_idle asked files end (by_size recheck large is) run = size_idle end is run
stops_idle asked files end (by_texts none stops) run = texts_idle (stage_of asked) (texts_among asked files) end stops run
stops_idle asked files end (by_policy policy stops) run = policy_idle stops.under.policy (authority_of stops.under.program) end stops.refuses run
stops_idle asked files end (by_length certify long is) run = size_idle end is run
stops_idle asked files end (by_certificate recheck stops) run = certificate_idle stops.resolve.under.bytes stops.program end stops.disproves run

pub run_or_texts : (end : Status) → IsOfRun end → ¬ IsOfTexts end
run_or_texts status.Ended run texts = texts
run_or_texts status.Usage run texts = run
run_or_texts (status.Unread file) run texts = run
run_or_texts (status.Syntax place kind) run texts = run
run_or_texts (status.Refused fault) run texts = run
run_or_texts (status.Limit name) run texts = run
run_or_texts (status.Trap kind place) run texts = texts
run_or_texts status.TooDeep run texts = texts
run_or_texts status.Spent run texts = texts
run_or_texts (status.DeviceFailed grant op) run texts = texts
run_or_texts status.Unwritten run texts = texts
run_or_texts status.Memory run texts = texts
run_or_texts (status.BadCert at) run texts = run
run_or_texts (status.Unproved scope test index) run texts = run
run_or_texts (status.Denied line instance atom) run texts = run
run_or_texts (status.BadPolicy line) run texts = run

pub out_run : (end : Status) → IsOfOut end → IsOfRun end
out_run status.Ended out = tt
out_run status.Usage out = out
out_run (status.Unread file) out = out
out_run (status.Syntax place kind) out = out
out_run (status.Refused fault) out = out
out_run (status.Limit name) out = out
out_run (status.Trap kind place) out = tt
out_run status.TooDeep out = tt
out_run status.Spent out = tt
out_run (status.DeviceFailed grant op) out = tt
out_run status.Unwritten out = tt
out_run status.Memory out = tt
out_run (status.BadCert at) out = out
out_run (status.Unproved scope test index) out = out
out_run (status.Denied line instance atom) out = out
out_run (status.BadPolicy line) out = out

pub run_of_end : (e : RunEnd) → IsOfRun (status_of e)
run_of_end end.Ended = tt
run_of_end (end.Trap kind place) = tt
run_of_end end.TooDeep = tt
run_of_end end.Spent = tt
run_of_end (end.DeviceFailed grant op) = tt
run_of_end end.SinkFailed = tt
run_of_end end.Memory = tt

pub out_wrote : (text : List ℕ) (out out' : SinkState) (end : Status) → Wrote text out out' end → IsOfOut end
out_wrote text out out' end (whole written is) = subst IsOfOut (sym is) tt
out_wrote text out out' end (cut short rose is) = subst IsOfOut (sym is) tt
out_wrote text out out' end (starved rest written is) = subst IsOfOut (sym is) tt

pub then_run : (text : List ℕ) (out out' : SinkState) (ended : RunEnd) (end : Status) → ThenWrote text out out' ended end → IsOfRun end
then_run text out out' ended end (summed is wrote) = out_run end (out_wrote text out out' end wrote)
then_run text out out' ended end (skipped other same says) = subst IsOfRun (sym says) (run_of_end ended)

behind_run : (text : List ℕ) (out out' : SinkState) (ended : RunEnd) (wrote : Status) → Wrote text out out' wrote → IsOfRun (behind wrote ended)
behind_run text out out' ended wrote (whole written is) = subst (λ (s : Status). IsOfRun (behind s ended)) (sym is) (run_of_end ended)
behind_run text out out' ended wrote (cut short rose is) = subst (λ (s : Status). IsOfRun (behind s ended)) (sym is) tt
behind_run text out out' ended wrote (starved rest written is) = subst (λ (s : Status). IsOfRun (behind s ended)) (sym is) tt

pub observed_run : (text : List ℕ) (out out' : SinkState) (ended : RunEnd) (end : Status) → ThenObserved text out out' ended end → IsOfRun end
observed_run text out out' ended end (unobserved is same) = subst IsOfRun (sym is) tt
observed_run text out out' ended end (observed full wrote so says) = subst IsOfRun (sym says) (behind_run text out out' ended wrote so)

code_observed : (text : List Event → List ℕ) (code : Code) (depth steps : ℕ) (out out' : SinkState) (devices devices' : DevicesState) (end : Status)
    → ObservesCode text code depth steps out out' devices devices' end → IsOfRun end
code_observed text code depth steps out out' devices devices' end (unbegun is o d) = subst IsOfRun (sym is) tt
code_observed text code depth steps out out' devices devices' end (begun ended runs so) = observed_run (text runs.events) out out' ended end so

pub run_ran : (way : Mode) (program : Program) (depth steps : ℕ) (out out' report report' : SinkState) (devices devices' : DevicesState) (end : Status)
    → Ran way program depth steps out out' report report' devices devices' end → IsOfRun end
run_ran way program depth steps out out' report report' devices devices' s (stopped short o same (inl is)) = subst IsOfRun (sym is) tt
run_ran way program depth steps out out' report report' devices devices' s (stopped short o same (inr is)) = subst IsOfRun (sym is.0) tt
run_ran mode.Silent program depth steps out out' report report' devices devices' s (performed written so) = subst IsOfRun (sym so.0.says) (run_of_end so.0.ended)
run_ran mode.Traced program depth steps out out' report report' devices devices' s (performed written so) = subst IsOfRun (sym so.says) (run_of_end so.ended)
run_ran (mode.Summed number) program depth steps out out' report report' devices devices' s (performed written so) =
    then_run (summary_in (mode.Summed number) program) out out' so.ended s so.wrote
run_ran mode.Observed program depth steps out out' report report' devices devices' s (performed written so) =
    code_observed (observed_text program) (lowered program (program_starts program)) depth steps out out' devices devices' s so

usage_past : (end : Status) → end ≡ status.Usage → IsPastReading end
usage_past end is = record {
  unread = λ file other. let e : status.Usage ≡ status.Unread file = sym is ∙ other in cc;
  crowd = λ other. let e : status.Usage ≡ status.Limit limit.Files = sym is ∙ other in cc;
}

pub past_declined : (asked : Settings) (texts : List (List ℕ)) (end : Status) → (end ≡ status.Memory) ⊎ StopsCall asked texts end → IsPastReading end
past_declined asked texts end (inl is) = run_past end (subst IsOfRun (sym is) tt)
past_declined asked texts end (inr (by_files stops)) = stops_past asked.command texts end stops
past_declined asked texts end (inr (by_folders lacks is)) = usage_past end is

pub idle_declined : (asked : Settings) (texts : List (List ℕ)) (end : Status) → (end ≡ status.Memory) ⊎ StopsCall asked texts end → end ≢ status.Memory → ¬ IsOfRun end
idle_declined asked texts end (inl is) full run = full is
idle_declined asked texts end (inr (by_files stops)) full run = stops_idle asked.command texts end stops run
idle_declined asked texts end (inr (by_folders lacks is)) full run = subst IsOfRun is run

-- memory ran out, or not
pub memory_or : (s : Status) → (s ≡ status.Memory) ⊎ (s ≢ status.Memory)
memory_or status.Ended = inr (λ is. cc)
memory_or status.Usage = inr (λ is. cc)
memory_or (status.Unread file) = inr (λ is. cc)
memory_or (status.Syntax place kind) = inr (λ is. cc)
memory_or (status.Refused fault) = inr (λ is. cc)
memory_or (status.Limit name) = inr (λ is. cc)
memory_or (status.Trap kind place) = inr (λ is. cc)
memory_or status.TooDeep = inr (λ is. cc)
memory_or status.Spent = inr (λ is. cc)
memory_or (status.DeviceFailed grant op) = inr (λ is. cc)
memory_or status.Unwritten = inr (λ is. cc)
memory_or status.Memory = inl refl
memory_or (status.BadCert at) = inr (λ is. cc)
memory_or (status.Unproved scope test index) = inr (λ is. cc)
memory_or (status.Denied line instance atom) = inr (λ is. cc)
memory_or (status.BadPolicy line) = inr (λ is. cc)

-- a status that is not of a run or of a file that was not read is one that texts have
pub ends_by_texts : (end : Status) → ((file : ℕ) → end ≢ status.Unread file) → ¬ IsOfRun end → IsOfTexts end
ends_by_texts status.Ended unread idle = absurd (idle tt)
ends_by_texts status.Usage unread idle = tt
ends_by_texts (status.Unread file) unread idle = absurd (unread file refl)
ends_by_texts (status.Syntax place kind) unread idle = tt
ends_by_texts (status.Refused fault) unread idle = tt
ends_by_texts (status.Limit name) unread idle = tt
ends_by_texts (status.Trap kind place) unread idle = absurd (idle tt)
ends_by_texts status.TooDeep unread idle = absurd (idle tt)
ends_by_texts status.Spent unread idle = absurd (idle tt)
ends_by_texts (status.DeviceFailed grant op) unread idle = absurd (idle tt)
ends_by_texts status.Unwritten unread idle = absurd (idle tt)
ends_by_texts status.Memory unread idle = absurd (idle tt)
ends_by_texts (status.BadCert at) unread idle = tt
ends_by_texts (status.Unproved scope test index) unread idle = tt
ends_by_texts (status.Denied line instance atom) unread idle = tt
ends_by_texts (status.BadPolicy line) unread idle = tt
