-- What a call promises at each way out of it, before its last line is written.
use Rattle.std.proofs.Common.{◌≡◌, ◌≢◌, ◌<◌, ◌≤◌, ◌⊎◌, inl, inr, ℕ, List, [], ◌++◌, Option, None, Some, Bool, true, false, refl, sym, ◌∙◌, ap, subst, arith, length, take, drop}
use Rattle.std.proofs.lemmas.Bool.Decides.{nat_tests}
use Rattle.std.proofs.lemmas.List.{append-nil}
use Rattle.wy_text.proofs.Gains.{gained-nil}
use Rattle.wy_text.specs.Outside.{SinkState, gained}
use Rattle.wy_text.specs.Shelf.{ShelfState}
use Rattle.wy_text.specs.declared.limit.LimitName.TheVariants as limit
use Rattle.wy_syntax.specs.Canonical.{canonical_form}
use Rattle.wy_types.specs.Program.{Program}
use Rattle.wy_symbols.specs.Declarations.{all_items}
use Rattle.wy_rules.specs.Acceptance.{Accepted}
use Rattle.wy_proving.specs.Proving.{ProvedIsAccepted}
use Rattle.wy_certify.specs.CertificateLaws.{OneSize}
use Rattle.wy_well_formed.specs.WellFormed.{ResolvedIsCore}
use Rattle.wy_engine.specs.Answering.{Answered}
use Rattle.wy_engine.specs.Answering as answering
use Rattle.wy_engine.specs.Headline.{Closes, HasCommand, Headline, IsTextless, Settles, answered, before_last_line, textless}
use Rattle.wy_engine.specs.LastLine.{LineWords, last_line, line_words}
use Rattle.wy_engine.specs.Certificates.{ProvesTexts, proved_text}
use Rattle.wy_engine.specs.Judgement.{HasFirst, accepted_text, allowed_text, authority_text, certified, checked, formatted, nothing, permitted, proved, ran, reported}
use Rattle.wy_engine.specs.ProgramLaws.{AcceptedRunAsMeant}
use Rattle.wy_engine.specs.Reading.{StopsAfter, StopsAt}
use Rattle.wy_settings.specs.Settings.{Settings, settings_of, takes}
use Rattle.wy_engine.specs.Status.{IsOfOut, IsOfRun}
use Rattle.wy_engine.specs.StatusNumber.{refusal_status}
use Rattle.wy_engine.specs.TopCall.{IsQuiet, IsSet, ReadsFiles, ReadsFor, TopCall, most_files, reads_of, takes_files}
use Rattle.wy_settings.specs.declared.command_line.Command.{Command}
use Rattle.wy_settings.specs.declared.command_line.Command.TheVariants as command
use Rattle.wy_settings.specs.declared.command_line.SettingsRefusal.{SettingsRefusal}
use Rattle.wy_settings.specs.declared.command_line.SettingsRefusal.TheVariants as words
use Rattle.wy_engine.specs.declared.status.Status.{Status}
use Rattle.wy_engine.specs.declared.status.Status.TheVariants as status
use Rattle.wy_engine.proofs.FilesRead.{Came, came_texts, is_sample, reads_all, reads_by, reads_for, same_settings}
use Rattle.wy_engine.proofs.OutWritten.{writes_by}
use Rattle.wy_engine.proofs.RunsMade.{ran_counted, runs_by}
use Rattle.wy_engine.proofs.Statuses.{idle_declined, out_past, out_run, out_wrote, past_declined, run_past, run_ran}
use Rattle.wy_engine.proofs.TextsAnswered.{accepts_done, accepts_stopped, asks_certify, asks_check, asks_format, asks_policy, asks_recheck, asks_report, asks_run}

-- `format` has one file
pub one_of_format : (named : Command) (files : List (List ℕ)) → takes named files ≡ true → named ≡ command.Format → length files ≡ 1
one_of_format named files is format =
    let fits : takes command.Format files ≡ true = subst (λ (c : Command). takes c files ≡ true) format is in
    grind (arith, nat_tests)

-- .. and a command whose first file is no text has some
pub some_first : (named : Command) (files : List (List ℕ)) → takes named files ≡ true → HasFirst named → 1 ≤ length files
some_first command.Check files is has = absurd has
some_first command.Authority files is has = absurd has
some_first command.Run files is has = absurd has
some_first command.Trace files is has = absurd has
some_first command.Observe files is has = absurd has
some_first command.Sample files is has = absurd has
some_first command.Format files is has = absurd has
some_first command.Certify files is has = absurd has
some_first command.Policy files is has = grind (arith, nat_tests)
some_first command.Recheck files is has = grind (arith, nat_tests)

-- the words of a call name one number of files
not_crowded : {A : Type 0} → (call : TopCall) (settings other : Settings) → IsSet call settings → length settings.files ≤ most_files → IsSet call other → most_files < length other.files → A
not_crowded call settings other set few same many =
    let both : Some settings ≡ Some other = sym set ∙ same in
    let one : other ≡ settings = cc in
    let less : most_files < length settings.files = subst (λ (s : Settings). most_files < length s.files) one many in
    absurd (omega arith)

-- a call to which not all texts came did nothing
quiet_settles : (call : TopCall) → ReadsFiles call → IsTextless call.words call.status → IsQuiet call → (call.status ≢ status.Memory → ¬ IsOfRun call.status) → Settles call
quiet_settles call reads without quiet idle = record {
  reads = reads;
  did = nothing;
  answers = textless without refl;
  does = (quiet, idle);
  counted = rw quiet.report (omega arith);
}

-- the words gave no settings
pub settles_faulty : (call : TopCall) → settings_of call.words ≡ None → call.shelf_after ≡ call.shelf → IsQuiet call → call.status ≡ status.Usage → Settles call
settles_faulty call none shelf quiet is = quiet_settles call
    (record {
      faulty = λ _. ((λ full. is), shelf);
      crowd = λ crowd. let q : status.Usage ≡ status.Limit limit.Files = sym is ∙ crowd in absurd (cc);
      crowded = λ settings set. let q : Some settings ≡ None = sym set ∙ none in absurd (cc);
      reads = λ settings set. let q : Some settings ≡ None = sym set ∙ none in absurd (cc);
      counted = λ file unread. let q : status.Usage ≡ status.Unread file = sym is ∙ unread in absurd (cc);
    })
    (subst (IsTextless call.words) (sym is) none) quiet (λ full run. subst IsOfRun is run)

-- the words name more files than the limit
pub settles_crowded : (call : TopCall) (settings : Settings) → IsSet call settings → most_files < length settings.files → call.shelf_after ≡ call.shelf → IsQuiet call → call.status ≡ status.Limit limit.Files → Settles call
settles_crowded call settings set many shelf quiet is = quiet_settles call
    (record {
      faulty = λ none. let q : Some settings ≡ None = sym set ∙ none in absurd (cc);
      crowd = λ _ other same. subst (λ (s : Settings). most_files < length s.files) (same_settings call settings other set same) many;
      crowded = λ other same more. ((λ full. is), shelf);
      reads = λ other same few. not_crowded call other settings same few set many;
      counted = λ file unread. let q : status.Limit limit.Files ≡ status.Unread file = sym is ∙ unread in absurd (cc);
    })
    (subst (IsTextless call.words) (sym is) refl) quiet (λ full run. subst IsOfRun is run)

-- nothing was read, for want of memory
nothing_for : (asked : Command) (call : TopCall) (names : List (List ℕ)) → call.shelf_after ≡ call.shelf → call.status ≡ status.Memory → ReadsFor asked call names
nothing_for asked call names shelf is = by (takes_files asked) refl
  where
    unread : (file : ℕ) → call.status ≢ status.Unread file
    unread file same = let q : status.Memory ≡ status.Unread file = sym is ∙ same in cc

    by : (b : Bool) → takes_files asked ≡ b → ReadsFor asked call names
    by true takes = reads_for asked call names takes (record {
      well = 0;
      badly = [];
      reads = ap (λ (s : ShelfState). s.reads) shelf ∙ sym (gained-nil call.shelf.reads);
      unread = λ file same. absurd (unread file same);
      others = λ none. refl;
      all = λ full none. absurd (full is);
    })
    by false none = subst (λ (c : Command). ReadsFor c call names) (sym (is_sample asked none)) (record { shelf = shelf; unread = unread })

-- memory was wanting while the words were read
pub settles_unsettled : (call : TopCall) → call.shelf_after ≡ call.shelf → IsQuiet call → call.status ≡ status.Memory → Settles call
settles_unsettled call shelf quiet is = quiet_settles call
    (record {
      faulty = λ _. ((λ full. absurd (full is)), shelf);
      crowd = λ crowd. let q : status.Memory ≡ status.Limit limit.Files = sym is ∙ crowd in absurd (cc);
      crowded = λ settings set many. ((λ full. absurd (full is)), shelf);
      reads = λ settings set few. nothing_for settings.command call settings.files shelf is;
      counted = λ file unread. let q : status.Memory ≡ status.Unread file = sym is ∙ unread in absurd (cc);
    })
    (subst (IsTextless call.words) (sym is) tt) quiet (λ full run. full is)

-- the last line of a call that wanted memory does not hang on its words
pub closes_unsettled : (one other : LineWords) (end : Status) (before after : SinkState) → Closes one status.Memory end before after → Closes other status.Memory end before after
closes_unsettled one other end before after closes = by closes.says
  where
    is_memory : closes.said ≡ status.Memory
    is_memory = elim closes.says [ inl same ↦ same | inr both ↦ both.0 ]

    split : last_line other closes.said ≡ closes.line ++ closes.cut
    split = subst (λ (s : Status). last_line other s ≡ closes.line ++ closes.cut) (sym is_memory) (subst (λ (s : Status). last_line one s ≡ closes.line ++ closes.cut) is_memory closes.split)

    by : (closes.said ≡ status.Memory) ⊎ ((closes.said ≡ status.Memory) × (end ≡ status.Memory)) → Closes other status.Memory end before after
    by says = record {
      said = closes.said;
      says = says;
      line = closes.line;
      cut = closes.cut;
      split = split;
      taken = closes.taken;
      whole = closes.whole;
      counted = closes.counted;
      kept = closes.kept;
    }

-- a file was not read
pub settles_unread : (call : TopCall) (settings : Settings) (file : ℕ) → IsSet call settings → takes_files settings.command ≡ true → length settings.files ≤ most_files → StopsAt settings.files file call.shelf call.shelf_after
    → call.out_after ≡ call.out → call.report_after ≡ call.report → call.devices_after ≡ call.devices → call.status ≡ status.Unread file → Settles call
settles_unread call settings file set takes few stops out report devices is = quiet_settles call
    (reads_by call settings set few (λ crowd. let q : status.Unread file ≡ status.Limit limit.Files = sym is ∙ crowd in absurd (cc)) (reads_for settings.command call settings.files takes (record {
      well = stops.well;
      badly = reads_of true (take 1 (drop stops.well settings.files));
      reads = stops.reads;
      unread = λ other same. let q : status.Unread file ≡ status.Unread other = sym is ∙ same in let e : other ≡ file = cc in (stops.within, e ∙ stops.number, refl);
      others = λ none. absurd (none file is);
      all = λ full none. absurd (none file is);
    })) (λ other same. stops.counted))
    (subst (IsTextless call.words) (sym is) tt) (record { out = out; report = report; devices = devices }) (λ full run. subst IsOfRun is run)

-- memory was wanting while files were read
pub settles_starved : (call : TopCall) (settings : Settings) → IsSet call settings → takes_files settings.command ≡ true → length settings.files ≤ most_files → StopsAfter settings.files call.shelf call.shelf_after
    → call.out_after ≡ call.out → call.report_after ≡ call.report → call.devices_after ≡ call.devices → call.status ≡ status.Memory → Settles call
settles_starved call settings set takes few stops out report devices is = quiet_settles call
    (reads_by call settings set few (λ crowd. let q : status.Memory ≡ status.Limit limit.Files = sym is ∙ crowd in absurd (cc)) (reads_for settings.command call settings.files takes (record {
      well = stops.well;
      badly = [];
      reads = stops.reads ∙ ap (λ x. gained call.shelf.reads x) (sym (append-nil (reads_of false (take stops.well settings.files))));
      unread = λ file same. let q : status.Memory ≡ status.Unread file = sym is ∙ same in absurd (cc);
      others = λ none. refl;
      all = λ full none. absurd (full is);
    })) (λ file same. let q : status.Memory ≡ status.Unread file = sym is ∙ same in absurd (cc)))
    (subst (IsTextless call.words) (sym is) tt) (record { out = out; report = report; devices = devices }) (λ full run. full is)

-- what is proved is accepted
proves_accepted : ResolvedIsCore → ProvedIsAccepted → (files : List (List ℕ)) (program : Program) → ProvesTexts files program → Accepted program
proves_accepted law sound files program proves =
    sound program proves.proves.0 (law (all_items proves.resolve.read.trees) program proves.resolve.read.resolves) proves.proves.2

-- texts came and were answered
has_command : (call : TopCall) (settings : Settings) (named : Command) → IsSet call settings → settings.command ≡ named → HasCommand call named
has_command call settings named set is = record { settings = settings; set = set; is = is }

pub settles_answered : ResolvedIsCore → OneSize → ProvedIsAccepted → AcceptedRunAsMeant → (call : TopCall) (settings : Settings) (read : List (List ℕ)) → IsSet call settings → length settings.files ≤ most_files
    → Came call settings read
    → Answered settings read call.out call.out_after call.report call.report_after call.devices call.devices_after call.status → Settles call
unfolding has_command
settles_answered law size sound runs call settings read set few so (answering.declined why out report devices) = record {
  reads = reads_all call settings read set few so (past_declined settings read call.status why);
  did = nothing;
  answers = answered settings read (came_texts call settings read set few so) (accepts_stopped law size call settings read why);
  does = (record { out = out; report = report; devices = devices }, idle_declined settings read call.status why);
  counted = rw report (omega arith);
}
settles_answered law size sound runs call settings read set few so (answering.checked program check passes wrote report devices) =
    let reached : IsOfOut call.status = out_wrote accepted_text call.out call.out_after call.status wrote in
    record {
      reads = reads_all call settings read set few so (out_past call.status reached);
      did = checked;
      answers = answered settings read (came_texts call settings read set few so) (accepts_done law size call settings (checked) read (record { files = asks_check settings.command read program check passes; folders = tt }) (out_run call.status reached));
      does = writes_by call command.Check accepted_text (has_command call settings command.Check set check) report devices wrote;
      counted = rw report (omega arith);
    }
settles_answered law size sound runs call settings read set few so (answering.reported program asks passes wrote report devices) =
    let reached : IsOfOut call.status = out_wrote (authority_text program) call.out call.out_after call.status wrote in
    record {
      reads = reads_all call settings read set few so (out_past call.status reached);
      did = reported program;
      answers = answered settings read (came_texts call settings read set few so) (accepts_done law size call settings (reported program) read (record { files = asks_report settings.command read program asks passes; folders = tt }) (out_run call.status reached));
      does = writes_by call command.Authority (authority_text program) (has_command call settings command.Authority set asks) report devices wrote;
      counted = rw report (omega arith);
    }
settles_answered law size sound runs call settings read set few so (answering.ran program way run number is fits ended) =
    let reached : IsOfRun call.status = run_ran way program settings.depth settings.steps call.out call.out_after call.report call.report_after call.devices call.devices_after call.status ended in
    record {
      reads = reads_all call settings read set few so (run_past call.status reached);
      did = ran program;
      answers = answered settings read (came_texts call settings read set few so) (accepts_done law size call settings (ran program) read (record { files = asks_run settings.command read way program run is; folders = fits }) reached);
      does = runs_by call settings set program is.passes.accepted.accepted (runs read program is.passes) way run number ended;
      counted = ran_counted way program settings.depth settings.steps call.out call.out_after call.report call.report_after call.devices call.devices_after call.status ended;
    }
settles_answered law size sound runs call settings read set few so (answering.formatted tree format have wrote report devices) =
    let reached : IsOfOut call.status = out_wrote (canonical_form tree) call.out call.out_after call.status wrote in
    record {
      reads = reads_all call settings read set few so (out_past call.status reached);
      did = formatted tree;
      answers = answered settings read (came_texts call settings read set few so) (accepts_done law size call settings (formatted tree) read (record { files = asks_format settings.command read tree format have; folders = tt }) (out_run call.status reached));
      does = writes_by call command.Format (canonical_form tree) (has_command call settings command.Format set format) report devices wrote;
      counted = rw report (omega arith);
    }
settles_answered law size sound runs call settings read set few so (answering.permitted asks keeps wrote report devices) =
    let reached : IsOfOut call.status = out_wrote allowed_text call.out call.out_after call.status wrote in
    record {
      reads = reads_all call settings read set few so (out_past call.status reached);
      did = permitted;
      answers = answered settings read (came_texts call settings read set few so) (accepts_done law size call settings (permitted) read (record { files = asks_policy settings.command read asks keeps; folders = tt }) (out_run call.status reached));
      does = writes_by call command.Policy allowed_text (has_command call settings command.Policy set asks) report devices wrote;
      counted = rw report (omega arith);
    }
settles_answered law size sound runs call settings read set few so (answering.certified program text asks passes is wrote report devices) =
    let reached : IsOfOut call.status = out_wrote text call.out call.out_after call.status wrote in
    record {
      reads = reads_all call settings read set few so (out_past call.status reached);
      did = certified program;
      answers = answered settings read (came_texts call settings read set few so) (accepts_done law size call settings (certified program) read (record { files = asks_certify settings.command read program asks (record { passes = passes; bytes = text; is = is }); folders = tt }) (out_run call.status reached));
      does = (text, is, writes_by call command.Certify text (has_command call settings command.Certify set asks) report devices wrote);
      counted = rw report (omega arith);
    }
settles_answered law size sound runs call settings read set few so (answering.proved program asks proves wrote report devices) =
    let reached : IsOfOut call.status = out_wrote proved_text call.out call.out_after call.status wrote in
    record {
      reads = reads_all call settings read set few so (out_past call.status reached);
      did = proved program;
      answers = answered settings read (came_texts call settings read set few so) (accepts_done law size call settings (proved program) read (record { files = asks_recheck settings.command read program asks proves; folders = tt }) (out_run call.status reached));
      does = (proves_accepted law sound read program proves, writes_by call command.Recheck proved_text (has_command call settings command.Recheck set asks) report devices wrote);
      counted = rw report (omega arith);
    }

-- words that give no settings end a call, and so does want of memory for them
pub refused_call : (call : TopCall) (refusal : SettingsRefusal) → (refusal ≡ words.Usage → settings_of call.words ≡ None) → call.shelf_after ≡ call.shelf → call.out_after ≡ call.out → call.devices_after ≡ call.devices
    → Closes (line_words None) (refusal_status refusal) call.status call.report call.report_after → Headline call
refused_call call words.Usage none shelf out devices closes = record {
  settled = status.Usage;
  report = call.report;
  settles = settles_faulty (before_last_line call status.Usage call.report) (none refl) shelf (record { out = out; report = refl; devices = devices }) refl;
  closes = subst (λ (o : Option Settings). Closes (line_words o) status.Usage call.status call.report call.report_after) (sym (none refl)) closes;
}
refused_call call words.Memory none shelf out devices closes = record {
  settled = status.Memory;
  report = call.report;
  settles = settles_unsettled (before_last_line call status.Memory call.report) shelf (record { out = out; report = refl; devices = devices }) refl;
  closes = closes_unsettled (line_words None) (line_words (settings_of call.words)) call.status call.report call.report_after closes;
}
