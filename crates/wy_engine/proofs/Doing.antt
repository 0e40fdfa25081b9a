-- What was done with texts, by what was done with their trees.
use Rattle.std.proofs.Common.{◌≡◌, ◌≢◌, ◌⊎◌, ◌≤◌, inl, inr, ℕ, suc, List, [], ◌∷◌, refl, sym, ◌∙◌, ap, subst, arith, length, get_or}
use Rattle.wy_text.specs.Outside.{SinkState}
use Rattle.wy_text.specs.declared.limit.LimitName.TheVariants as limit
use Rattle.wy_device.specs.Devices.{DevicesState}
use Rattle.wy_syntax.specs.Canonical.{canonical_form}
use Rattle.wy_syntax.specs.Trees.{ItemTree}
use Rattle.wy_types.specs.Program.{Program}
use Rattle.wy_symbols.specs.Declarations.{all_items}
use Rattle.wy_names.specs.Names.{Resolves}
use Rattle.wy_rules.specs.Ends as ends
use Rattle.wy_rules.specs.Ends.{IsAccepted}
use Rattle.wy_judge.specs.Checking.{IsRefusalOf}
use Rattle.wy_judge.specs.declared.checking.CheckRefusal.{CheckRefusal}
use Rattle.wy_judge.specs.declared.checking.CheckRefusal.TheVariants as refusal
use Rattle.wy_engine.specs.Answering.{Answered, CertifiesTrees, ChecksTrees, FailsCheck, JudgesByPolicy, JudgesTreesByPolicy, RechecksTrees, RunsAccepted, RunsTrees, accepted, accepted_trees, certified, certified_trees, certify_status, check_status, checked, declined, denied, disproved, fails, fails_check, formatted, judged, kept, limited, nameless, not_accepted, overlong_for, permitted, proved, proved_trees, lacking, ran, ran_program, recheck_status, reported, unaccepted, uncertified, unjudged, unnamed, wanting}
use Rattle.wy_engine.specs.FileTrees.{FirstNoTree, HaveTrees}
use Rattle.wy_certify.specs.declared.certifying.CertifyRefusal.{CertifyRefusal}
use Rattle.wy_certify.specs.declared.certifying.CertifyRefusal.TheVariants as overlong
use Rattle.wy_certify.specs.NotCertified as certifying
use Rattle.wy_recheck.specs.declared.rechecking.CertRefusal.{CertRefusal}
use Rattle.wy_recheck.specs.declared.rechecking.CertRefusal.TheVariants as disproof
use Rattle.wy_recheck.specs.ProvedBy as rechecking
use Rattle.wy_recheck.specs.ProvedBy.{IsProvedBy}
use Rattle.wy_engine.specs.Certificates.{HasLargeCertificate, HasNoLargeCertificate, ResolveBehind, most_certificate}
use Rattle.wy_engine.specs.Folders.{StopsCall, by_files, by_folders}
use Rattle.wy_engine.specs.Judgement.{EndsLowering, HasFirst, IsNumbered, RunsPrograms, Stage, Stops, StopsTexts, accepted_text, authority_text, by_certificate, by_length, by_policy, by_size, by_texts, running, stage_of}
use Rattle.wy_engine.specs.Passing.{Passes}
use Rattle.wy_engine.specs.NameFaults.{ResolveTo}
use Rattle.wy_engine.specs.Writing.{Wrote}
use Rattle.wy_settings.specs.Settings.{Settings, texts_among}
use Rattle.wy_settings.specs.declared.command_line.Command.{Command}
use Rattle.wy_settings.specs.declared.command_line.Command.TheVariants as command
use Rattle.wy_engine.specs.declared.running.Mode.{Mode}
use Rattle.wy_engine.specs.declared.running.Mode.TheVariants as mode
use Rattle.wy_engine.specs.declared.status.Status.{Status}
use Rattle.wy_engine.specs.declared.status.Status.TheVariants as status
use Rattle.wy_engine.proofs.NamesJudged.{JudgesNames, names_stop}
use Rattle.wy_engine.proofs.OneAnswer.{JudgesPrograms, lowers_programs, stops_ended, stops_lowered, stops_treeless}
use Rattle.wy_engine.proofs.TextsAnswered.{asks_run}
use Rattle.wy_engine.proofs.TextsAmong.{all_run, all_texts, behind_certificate, behind_first}

stops_unless : (stage : Stage) (texts : List (List ℕ)) (end : Status) → (end ≢ status.Memory → FirstNoTree 1 texts end) → (end ≡ status.Memory) ⊎ StopsTexts stage texts end
stops_unless stage texts status.Memory none = inl refl
stops_unless stage texts status.Ended none = inr (stops_treeless stage texts status.Ended (none (λ is. cc)))
stops_unless stage texts status.Usage none = inr (stops_treeless stage texts status.Usage (none (λ is. cc)))
stops_unless stage texts (status.Unread file) none = inr (stops_treeless stage texts (status.Unread file) (none (λ is. cc)))
stops_unless stage texts (status.Syntax place kind) none = inr (none (λ is. cc))
stops_unless stage texts (status.Refused fault) none = inr (stops_treeless stage texts (status.Refused fault) (none (λ is. cc)))
stops_unless stage texts (status.Limit name) none = inr (stops_treeless stage texts (status.Limit name) (none (λ is. cc)))
stops_unless stage texts (status.Trap kind place) none = inr (stops_treeless stage texts (status.Trap kind place) (none (λ is. cc)))
stops_unless stage texts status.TooDeep none = inr (stops_treeless stage texts status.TooDeep (none (λ is. cc)))
stops_unless stage texts status.Spent none = inr (stops_treeless stage texts status.Spent (none (λ is. cc)))
stops_unless stage texts (status.DeviceFailed grant op) none = inr (stops_treeless stage texts (status.DeviceFailed grant op) (none (λ is. cc)))
stops_unless stage texts status.Unwritten none = inr (stops_treeless stage texts status.Unwritten (none (λ is. cc)))
stops_unless stage texts (status.BadCert at) none = inr (stops_treeless stage texts (status.BadCert at) (none (λ is. cc)))
stops_unless stage texts (status.Unproved scope test index) none = inr (stops_treeless stage texts (status.Unproved scope test index) (none (λ is. cc)))
stops_unless stage texts (status.Denied line instance atom) none = inr (stops_treeless stage texts (status.Denied line instance atom) (none (λ is. cc)))
stops_unless stage texts (status.BadPolicy line) none = inr (stops_treeless stage texts (status.BadPolicy line) (none (λ is. cc)))

-- what stops a call by the texts among its files
among : (asked : Command) (files : List (List ℕ)) (end : Status) → HasNoLargeCertificate asked files → (end ≡ status.Memory) ⊎ StopsTexts (stage_of asked) (texts_among asked files) end → (end ≡ status.Memory) ⊎ Stops asked files end
among asked files end none (inl is) = inl is
among asked files end none (inr stops) = inr (by_texts none stops)

-- only under `recheck` is there a certificate
pub no_certificate : (asked : Command) (files : List (List ℕ)) → asked ≢ command.Recheck → HasNoLargeCertificate asked files
no_certificate command.Check files other = tt
no_certificate command.Authority files other = tt
no_certificate command.Run files other = tt
no_certificate command.Trace files other = tt
no_certificate command.Observe files other = tt
no_certificate command.Sample files other = tt
no_certificate command.Format files other = tt
no_certificate command.Policy files other = tt
no_certificate command.Certify files other = tt
no_certificate command.Recheck files other = absurd (other refl)

-- .. so with a command that is another one
none_as : (asked named : Command) (files : List (List ℕ)) → asked ≡ named → named ≢ command.Recheck → HasNoLargeCertificate asked files
none_as asked named files same other = no_certificate asked files (λ is. other (sym same ∙ is))

-- files that stop their command end its call
by_its_files : (asked : Settings) (files : List (List ℕ)) (end : Status) → (end ≡ status.Memory) ⊎ Stops asked.command files end → (end ≡ status.Memory) ⊎ StopsCall asked files end
by_its_files asked files end (inl is) = inl is
by_its_files asked files end (inr stops) = inr (by_files stops)

pub did_large : (asked : Settings) (files : List (List ℕ)) (out report : SinkState) (devices : DevicesState) → asked.command ≡ command.Recheck → HasLargeCertificate files
    → Answered asked files out out report report devices devices (status.Limit limit.CertificateBytes)
did_large asked files out report devices recheck large = declined (inr (by_files (by_size recheck large refl))) refl refl refl

pub did_none : (asked : Settings) (files : List (List ℕ)) (out report : SinkState) (devices : DevicesState) (end : Status) → HasNoLargeCertificate asked.command files
    → (end ≢ status.Memory → FirstNoTree 1 (texts_among asked.command files) end) → Answered asked files out out report report devices devices end
did_none asked files out report devices end small none =
    declined (by_its_files asked files end (among asked.command files end small (stops_unless (stage_of asked.command) (texts_among asked.command files) end none))) refl refl refl

judges_as : (asked named : Command) → asked ≡ named → JudgesNames (stage_of named) → JudgesNames (stage_of asked)
judges_as asked named same judges = subst (λ (c : Command). JudgesNames (stage_of c)) (sym same) judges

checks_as : (asked named : Command) → asked ≡ named → JudgesPrograms (stage_of named) → JudgesPrograms (stage_of asked)
checks_as asked named same judges = subst (λ (c : Command). JudgesPrograms (stage_of c)) (sym same) judges

-- the program of trees in which the names resolve
resolve_to : (texts : List (List ℕ)) (trees : List (List ItemTree)) (program : Program) → HaveTrees 1 texts trees → Resolves (all_items trees) program → ResolveTo texts program
resolve_to texts trees program have resolves = record { trees = trees; have = have; resolves = resolves }

-- what refuses a program stops a command that judges it, but for want of memory
refused_program : (stage : Stage) (texts : List (List ℕ)) (program : Program) (why : CheckRefusal) → JudgesPrograms stage → ResolveTo texts program → IsRefusalOf program why
    → (check_status why ≡ status.Memory) ⊎ StopsTexts stage texts (check_status why)
refused_program stage texts program (refusal.Fails fault) judges is of = inr (stops_ended stage texts (ends.refused fault) judges (record { program = program; read = is; ends = of }))
refused_program stage texts program (refusal.Limit name) judges is of = inr (stops_ended stage texts (ends.limited name) judges (record { program = program; read = is; ends = of }))
refused_program stage texts program refusal.Memory judges is of = inl refl

failed_check : (stage : Stage) (texts : List (List ℕ)) (trees : List (List ItemTree)) (end : Status) → JudgesNames stage → JudgesPrograms stage → HaveTrees 1 texts trees → FailsCheck trees end
    → (end ≡ status.Memory) ⊎ StopsTexts stage texts end
failed_check stage texts trees end names programs have (nameless why refused is) = names_stop stage texts trees why end names have refused is
failed_check stage texts trees end names programs have (not_accepted program resolves why of is) =
    subst (λ (s : Status). (s ≡ status.Memory) ⊎ StopsTexts stage texts s) (sym is) (refused_program stage texts program why programs (resolve_to texts trees program have resolves) of)

-- .. and so with the trees of the texts among the files of a command that is this one
failed_among : (asked named : Command) (files : List (List ℕ)) (trees : List (List ItemTree)) (end : Status) → asked ≡ named → named ≢ command.Recheck → JudgesNames (stage_of named) → JudgesPrograms (stage_of named)
    → HaveTrees 1 (texts_among asked files) trees → FailsCheck trees end → (end ≡ status.Memory) ⊎ Stops asked files end
failed_among asked named files trees end same other names programs have why =
    among asked files end (none_as asked named files same other)
    (failed_check (stage_of asked) (texts_among asked files) trees end (judges_as asked named same names) (checks_as asked named same programs) have why)

are_all : (ts files : List (List ℕ)) (trees : List (List ItemTree)) → ts ≡ files → HaveTrees 1 ts trees → HaveTrees 1 files trees
are_all ts files trees same have = subst (λ (xs : List (List ℕ)). HaveTrees 1 xs trees) same have

pub passes_check : (texts : List (List ℕ)) (trees : List (List ItemTree)) (program : Program) → HaveTrees 1 texts trees → Resolves (all_items trees) program → IsAccepted program
    → Passes texts program
passes_check texts trees program have resolves passes = record { read = resolve_to texts trees program have resolves; accepted = passes }

runs_other : (way : Mode) → running way ≢ command.Recheck
runs_other mode.Silent is = cc
runs_other mode.Traced is = cc
runs_other mode.Observed is = cc
runs_other (mode.Summed number) is = cc

did_accepted : (asked : Settings) (texts : List (List ℕ)) (way : Mode) (program : Program) (out out' report report' : SinkState) (devices devices' : DevicesState) (end : Status)
    → asked.command ≡ running way → IsNumbered way asked.files → Passes texts program → RunsAccepted way program asked.folders asked.depth asked.steps out out' report report' devices devices' end
    → Answered asked texts out out' report report' devices devices' end
did_accepted asked texts way program out out' report report' devices devices' end run number passes (limited name passed is o r d) =
    let lowers : EndsLowering texts name = record { program = program; passes = passes; passed = passed } in
    let stop : StopsTexts (stage_of asked.command) texts end = subst (λ (s : Status). StopsTexts (stage_of asked.command) texts s) (sym is) (stops_lowered (stage_of asked.command) texts name (lowers_programs asked.command way run) lowers) in
    declined (inr (by_files (by_texts (none_as asked.command (running way) texts run (runs_other way)) (subst (λ (ts : List (List ℕ)). StopsTexts (stage_of asked.command) ts end) (sym (all_run asked.command way texts run)) stop)))) o r d
did_accepted asked texts way program out out' report report' devices devices' end run number passes (wanting is o r d) = declined (inl is) o r d
did_accepted asked texts way program out out' report report' devices devices' end run number passes (lacking within lacks is o r d) =
    declined (inr (by_folders (record { program = program; runs = asks_run asked.command texts way program run (record { passes = passes; within = within }); lacks = lacks }) is)) o r d
did_accepted asked texts way program out out' report report' devices devices' end run number passes (ran_program within fits so) = ran program way run number (record { passes = passes; within = within }) fits so

judges_run : (way : Mode) → JudgesNames (stage_of (running way))
judges_run mode.Silent = tt
judges_run mode.Traced = tt
judges_run mode.Observed = tt
judges_run (mode.Summed number) = tt

checks_run : (way : Mode) → JudgesPrograms (stage_of (running way))
checks_run mode.Silent = tt
checks_run mode.Traced = tt
checks_run mode.Observed = tt
checks_run (mode.Summed number) = tt

-- a command that is one which runs programs
pub runs_as : {asked named : Command} → asked ≡ named → RunsPrograms named → RunsPrograms asked
runs_as is runs = subst (λ (c : Command). RunsPrograms c) (sym is) runs

pub did_run : (asked : Settings) (texts : List (List ℕ)) (way : Mode) (trees : List (List ItemTree)) (out out' report report' : SinkState) (devices devices' : DevicesState) (end : Status)
    → asked.command ≡ running way → IsNumbered way asked.files → HaveTrees 1 (texts_among asked.command texts) trees → RunsTrees way trees asked.folders asked.depth asked.steps out out' report report' devices devices' end
    → Answered asked texts out out' report report' devices devices' end
did_run asked texts way trees out out' report report' devices devices' end run number have (fails_check why o r d) =
    declined (by_its_files asked texts end (failed_among asked.command (running way) texts trees end run (runs_other way) (judges_run way) (checks_run way) have why)) o r d
did_run asked texts way trees out out' report report' devices devices' end run number have (accepted_trees program resolves passes so) =
    did_accepted asked texts way program out out' report report' devices devices' end run number
    (passes_check texts trees program (are_all (texts_among asked.command texts) texts trees (all_run asked.command way texts run) have) resolves passes) so

pub did_check : (asked : Settings) (texts : List (List ℕ)) (trees : List (List ItemTree)) (out out' report : SinkState) (devices : DevicesState) (end : Status)
    → asked.command ≡ command.Check → HaveTrees 1 (texts_among asked.command texts) trees → ChecksTrees (λ (program : Program). accepted_text) trees out out' end → Answered asked texts out out' report report devices devices end
did_check asked texts trees out out' report devices end check have (fails why o) = declined (by_its_files asked texts end (failed_among asked.command command.Check texts trees end check (λ e. cc) tt tt have why)) o refl refl
did_check asked texts trees out out' report devices end check have (accepted program resolves passes wrote) =
    checked program check (passes_check texts trees program (are_all (texts_among asked.command texts) texts trees (all_texts asked.command command.Check texts check refl) have) resolves passes) wrote refl refl

pub did_report : (asked : Settings) (texts : List (List ℕ)) (trees : List (List ItemTree)) (out out' report : SinkState) (devices : DevicesState) (end : Status)
    → asked.command ≡ command.Authority → HaveTrees 1 (texts_among asked.command texts) trees → ChecksTrees authority_text trees out out' end → Answered asked texts out out' report report devices devices end
did_report asked texts trees out out' report devices end asks have (fails why o) = declined (by_its_files asked texts end (failed_among asked.command command.Authority texts trees end asks (λ e. cc) tt tt have why)) o refl refl
did_report asked texts trees out out' report devices end asks have (accepted program resolves passes wrote) =
    reported program asks (passes_check texts trees program (are_all (texts_among asked.command texts) texts trees (all_texts asked.command command.Authority texts asks refl) have) resolves passes) wrote refl refl

pub did_format : (asked : Settings) (texts : List (List ℕ)) (trees : List (List ItemTree)) (tree : List ItemTree) (out out' report : SinkState) (devices : DevicesState) (end : Status)
    → asked.command ≡ command.Format → HaveTrees 1 (texts_among asked.command texts) trees → trees ≡ tree ∷ [] → Wrote (canonical_form tree) out out' end → Answered asked texts out out' report report devices devices end
did_format asked texts trees tree out out' report devices end format have is wrote =
    formatted tree format (subst (λ (ts : List (List ItemTree)). HaveTrees 1 texts ts) is (are_all (texts_among asked.command texts) texts trees (all_texts asked.command command.Format texts format refl) have)) wrote refl refl

did_judge : (asked : Settings) (policy : List ℕ) (texts : List (List ℕ)) (program : Program) (out out' report : SinkState) (devices : DevicesState) (end : Status)
    → asked.command ≡ command.Policy → Passes texts program → JudgesByPolicy policy program out out' end → Answered asked (policy ∷ texts) out out' report report devices devices end
did_judge asked policy texts program out out' report devices end asks passes (unjudged is o) = declined (inl is) o refl refl
did_judge asked policy texts program out out' report devices end asks passes (denied refuses o) =
    declined (by_its_files asked (policy ∷ texts) end (inr (by_policy asks (record { under = record { policy = policy; texts = texts; split = refl; program = program; passes = passes }; refuses = refuses })))) o refl refl
did_judge asked policy texts program out out' report devices end asks passes (kept rows is allowed wrote) =
    permitted asks (record { under = record { policy = policy; texts = texts; split = refl; program = program; passes = passes }; rows = rows; is = is; allowed = allowed }) wrote refl refl

did_first : (asked : Settings) (policy : List ℕ) (texts : List (List ℕ)) (trees : List (List ItemTree)) (out out' report : SinkState) (devices : DevicesState) (end : Status)
    → asked.command ≡ command.Policy → HaveTrees 1 (texts_among asked.command (policy ∷ texts)) trees → JudgesTreesByPolicy policy trees out out' end
    → Answered asked (policy ∷ texts) out out' report report devices devices end
did_first asked policy texts trees out out' report devices end asks have (unaccepted why o) =
    declined (by_its_files asked (policy ∷ texts) end (failed_among asked.command command.Policy (policy ∷ texts) trees end asks (λ e. cc) tt tt have why)) o refl refl
did_first asked policy texts trees out out' report devices end asks have (judged program resolves passes so) =
    let behind : HaveTrees 1 texts trees = are_all (texts_among asked.command (policy ∷ texts)) texts trees (behind_first asked.command policy texts asks) have in
    did_judge asked policy texts program out out' report devices end asks (passes_check texts trees program behind resolves passes) so

pub did_policy : (asked : Settings) (files : List (List ℕ)) (policy other : List ℕ) (trees : List (List ItemTree)) (out out' report : SinkState) (devices : DevicesState) (end : Status)
    → asked.command ≡ command.Policy → 1 ≤ length files → policy ≡ get_or files 0 other → HaveTrees 1 (texts_among asked.command files) trees → JudgesTreesByPolicy policy trees out out' end
    → Answered asked files out out' report report devices devices end
did_policy asked [] policy other trees out out' report devices end asks some is have so = absurd (omega arith)
did_policy asked (first ∷ texts) policy other trees out out' report devices end asks some is have so =
    did_first asked first texts trees out out' report devices end asks have (subst (λ (bytes : List ℕ). JudgesTreesByPolicy bytes trees out out' end) is so)

pub as_many : (file : ℕ) (texts : List (List ℕ)) (trees : List (List ItemTree)) → HaveTrees file texts trees → length trees ≡ length texts
as_many file [] [] have = refl
as_many file [] (t ∷ ts) have = absurd have
as_many file (x ∷ xs) [] have = absurd have
as_many file (x ∷ xs) (t ∷ ts) have = ap suc (as_many (suc file) xs ts have.1)

-- a command that is one whose first file is no text
pub first_as : {asked named : Command} → asked ≡ named → HasFirst named → HasFirst asked
first_as is has = subst (λ (c : Command). HasFirst c) (sym is) has

-- ---- certificates

not_certified : (asked : Settings) (texts : List (List ℕ)) (program : Program) (why : CertifyRefusal) → asked.command ≡ command.Certify → Passes texts program → certifying.IsRefusedBy program why
    → (certify_status why ≡ status.Memory) ⊎ Stops asked.command texts (certify_status why)
not_certified asked texts program (overlong.Limit name) certify passes is =
    inr (by_length certify (record { program = program; passes = passes; long = is.1 }) (ap status.Limit is.0))
not_certified asked texts program overlong.Memory certify passes is = inl refl

pub did_certify : (asked : Settings) (texts : List (List ℕ)) (trees : List (List ItemTree)) (out out' report : SinkState) (devices : DevicesState) (end : Status)
    → asked.command ≡ command.Certify → HaveTrees 1 (texts_among asked.command texts) trees → CertifiesTrees trees out out' end → Answered asked texts out out' report report devices devices end
did_certify asked texts trees out out' report devices end certify have (uncertified why o) = declined (by_its_files asked texts end (failed_among asked.command command.Certify texts trees end certify (λ e. cc) tt tt have why)) o refl refl
did_certify asked texts trees out out' report devices end certify have (overlong_for program resolves accepts why of is o) =
    let all : HaveTrees 1 texts trees = are_all (texts_among asked.command texts) texts trees (all_texts asked.command command.Certify texts certify refl) have in
    let passes : Passes texts program = passes_check texts trees program all resolves accepts in
    declined (by_its_files asked texts end (subst (λ (s : Status). (s ≡ status.Memory) ⊎ Stops asked.command texts s) (sym is) (not_certified asked texts program why certify passes of))) o refl refl
did_certify asked texts trees out out' report devices end certify have (certified_trees program resolves accepts text is wrote) =
    let all : HaveTrees 1 texts trees = are_all (texts_among asked.command texts) texts trees (all_texts asked.command command.Certify texts certify refl) have in
    certified program text certify (passes_check texts trees program all resolves accepts) is wrote refl refl

not_proved : (asked : Settings) (bytes : List ℕ) (texts : List (List ℕ)) (program : Program) (why : CertRefusal) → asked.command ≡ command.Recheck → ResolveTo texts program → length bytes ≤ most_certificate
    → rechecking.IsRefusedBy program bytes why → (recheck_status why ≡ status.Memory) ⊎ Stops asked.command (bytes ∷ texts) (recheck_status why)
not_proved asked bytes texts program (disproof.BadCert at) recheck read within is =
    inr (by_certificate recheck (record { program = program; resolve = record { under = record { bytes = bytes; texts = texts; split = refl }; within = within; read = read }; disproves = is }))
not_proved asked bytes texts program (disproof.Unproved scope test index) recheck read within is =
    inr (by_certificate recheck (record { program = program; resolve = record { under = record { bytes = bytes; texts = texts; split = refl }; within = within; read = read }; disproves = is }))
not_proved asked bytes texts program disproof.Memory recheck read within is = inl refl

-- the certificate is within the limit
within_as : (asked : Command) (bytes : List ℕ) (texts : List (List ℕ)) → asked ≡ command.Recheck → HasNoLargeCertificate asked (bytes ∷ texts) → length bytes ≤ most_certificate
within_as asked bytes texts recheck none = subst (λ (c : Command). HasNoLargeCertificate c (bytes ∷ texts)) recheck none

did_prove : (asked : Settings) (bytes : List ℕ) (texts : List (List ℕ)) (trees : List (List ItemTree)) (out out' report : SinkState) (devices : DevicesState) (end : Status)
    → asked.command ≡ command.Recheck → HasNoLargeCertificate asked.command (bytes ∷ texts) → HaveTrees 1 (texts_among asked.command (bytes ∷ texts)) trees → RechecksTrees bytes trees out out' end
    → Answered asked (bytes ∷ texts) out out' report report devices devices end
did_prove asked bytes texts trees out out' report devices end recheck none have (unnamed why refused is o) =
    declined (by_its_files asked (bytes ∷ texts) end (among asked.command (bytes ∷ texts) end none
    (names_stop (stage_of asked.command) (texts_among asked.command (bytes ∷ texts)) trees why end (judges_as asked.command command.Recheck recheck tt) have refused is))) o refl refl
did_prove asked bytes texts trees out out' report devices end recheck none have (disproved program resolves why of is o) =
    let behind : HaveTrees 1 texts trees = are_all (texts_among asked.command (bytes ∷ texts)) texts trees (behind_certificate asked.command bytes texts recheck) have in
    declined (by_its_files asked (bytes ∷ texts) end (subst (λ (s : Status). (s ≡ status.Memory) ⊎ Stops asked.command (bytes ∷ texts) s) (sym is)
    (not_proved asked bytes texts program why recheck (resolve_to texts trees program behind resolves) (within_as asked.command bytes texts recheck none) of))) o refl refl
did_prove asked bytes texts trees out out' report devices end recheck none have (proved_trees program resolves proves wrote) =
    let behind : HaveTrees 1 texts trees = are_all (texts_among asked.command (bytes ∷ texts)) texts trees (behind_certificate asked.command bytes texts recheck) have in
    let resolve : ResolveBehind (bytes ∷ texts) program = record { under = record { bytes = bytes; texts = texts; split = refl }; within = within_as asked.command bytes texts recheck none; read = resolve_to texts trees program behind resolves } in
    proved program recheck (record { resolve = resolve; proves = proves }) wrote refl refl

pub did_recheck : (asked : Settings) (files : List (List ℕ)) (bytes other : List ℕ) (trees : List (List ItemTree)) (out out' report : SinkState) (devices : DevicesState) (end : Status)
    → asked.command ≡ command.Recheck → 1 ≤ length files → bytes ≡ get_or files 0 other → HasNoLargeCertificate asked.command files → HaveTrees 1 (texts_among asked.command files) trees → RechecksTrees bytes trees out out' end
    → Answered asked files out out' report report devices devices end
did_recheck asked [] bytes other trees out out' report devices end recheck some is none have so = absurd (omega (arith, some))
did_recheck asked (first ∷ texts) bytes other trees out out' report devices end recheck some is none have so =
    did_prove asked first texts trees out out' report devices end recheck none have (subst (λ (l : List ℕ). RechecksTrees l trees out out' end) is so)
