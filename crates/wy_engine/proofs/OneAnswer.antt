-- Texts have one answer: a status that ends the call, or one thing that is done with them.
use Rattle.std.proofs.Common.{◌≡◌, ◌≢◌, ◌<◌, ◌≤◌, inl, inr, ℕ, List, [], ◌∷◌, Option, Some, None, refl, sym, ◌∙◌, ap, subst, arith, length}
use Rattle.wy_text.specs.declared.limit.LimitName.{LimitName}
use Rattle.wy_syntax.specs.Trees.{ItemTree}
use Rattle.wy_types.specs.Core.{IsCore}
use Rattle.wy_types.specs.Program.{Program}
use Rattle.wy_symbols.specs.Declarations.{all_items}
use Rattle.wy_names.specs.Names.{Resolves}
use Rattle.wy_names.proofs.OneAnswer as names
use Rattle.wy_well_formed.specs.WellFormed.{ResolvedIsCore}
use Rattle.wy_rules.specs.Ends.{End, IsEnd, limited, refused}
use Rattle.wy_rules.proofs.OneEnd.{accepted_has_no_end, one_end}
use Rattle.wy_authority.specs.Authority.{authority_of}
use Rattle.wy_lower.specs.Counts.{lowering_limit}
use Rattle.wy_sound.specs.Programs.{program_starts}
use Rattle.wy_engine.specs.FileTrees.{FirstNoTree, HasNoTree, HaveTrees}
use Rattle.wy_certify.specs.Certificates.{IsTooLong}
use Rattle.wy_certify.specs.CertificateLaws.{OneSize}
use Rattle.wy_engine.specs.Certificates.{Disproves, HasLargeCertificate, HasNoLargeCertificate, ProvesTexts, ResolveBehind, StopsByCertificate, UnderCertificate, most_certificate}
use Rattle.wy_engine.specs.Certifying.{HasCertificate}
use Rattle.wy_engine.specs.Judgement.{Asks, Did, EndsJudging, EndsLowering, KeepsToPolicy, Refuses, Runnable, RunsPrograms, Stage, Stops, StopsByPolicy, StopsLimited, StopsTexts, StopsUnnamed, UnderPolicy, by_certificate, by_length, by_policy, by_size, by_texts, certified, checked, formatted, judging, lowering, naming, parsing, permitted, proved, ran, reported, running, stage_of}
use Rattle.wy_engine.specs.Passing.{Passes}
use Rattle.wy_engine.specs.NameFaults.{NamesStop, ResolveTo}
use Rattle.wy_settings.specs.Settings.{texts_among}
use Rattle.wy_settings.specs.declared.command_line.Command.{Command}
use Rattle.wy_settings.specs.declared.command_line.Command.TheVariants as command
use Rattle.wy_engine.specs.declared.running.Mode.{Mode}
use Rattle.wy_engine.specs.declared.running.Mode.TheVariants as mode
use Rattle.wy_engine.specs.declared.status.Status.{Status}
use Rattle.wy_engine.specs.declared.status.Status.TheVariants as status
use Rattle.wy_engine.proofs.CertificateAnswers.{certified_or_long, one_disproof, proved_or_disproved}
use Rattle.wy_engine.proofs.NamesJudged.{JudgesNames, one_names_stop, resolve_or_stop, stops_names}
use Rattle.wy_engine.proofs.OneTree.{one_first, same_trees, trees_or_none}
use Rattle.wy_engine.proofs.PolicyAnswers.{allowed_or_refused, one_refusal}

one_program : (texts : List (List ℕ)) (p q : Program) → ResolveTo texts p → ResolveTo texts q → p ≡ q
one_program texts p q a b =
    let trees : b.trees ≡ a.trees = same_trees 1 texts b.trees a.trees b.have a.have in
    names.one_program (all_items a.trees) p q a.resolves (subst (λ (ts : List (List ItemTree)). Resolves (all_items ts) q) trees b.resolves)

-- ---- by what texts stop a call

-- the status of texts whose program is not accepted
abbrev pub end_status : End → Status
end_status (limited name) = status.Limit name
end_status (refused fault) = status.Refused fault

-- whether the program is judged so far, and its code made
abbrev pub JudgesPrograms : Stage → Type 0
JudgesPrograms parsing = ⊥
JudgesPrograms naming = ⊥
JudgesPrograms judging = Unit {0}
JudgesPrograms lowering = Unit {0}

abbrev pub LowersPrograms : Stage → Type 0
LowersPrograms parsing = ⊥
LowersPrograms naming = ⊥
LowersPrograms judging = ⊥
LowersPrograms lowering = Unit {0}

pub data StopsBy (stage : Stage) (texts : List (List ℕ)) (end : Status) : Type 0 where
  treeless : FirstNoTree 1 texts end → StopsBy stage texts end
  unresolved : JudgesNames stage → NamesStop texts end → end ≢ status.Memory → StopsBy stage texts end
  not_accepted : JudgesPrograms stage → (why : End) → EndsJudging texts why → end ≡ end_status why → StopsBy stage texts end
  not_lowered : LowersPrograms stage → (name : LimitName) → EndsLowering texts name → end ≡ status.Limit name → StopsBy stage texts end

by_unnamed : (stage : Stage) (texts : List (List ℕ)) (name : LimitName) → JudgesNames stage → StopsUnnamed texts name → StopsBy stage texts (status.Limit name)
by_unnamed stage texts name judges (inl stop) = treeless stop
by_unnamed stage texts name judges (inr stop) = unresolved judges stop (λ e. cc)

by_limit : (stage : Stage) (texts : List (List ℕ)) (name : LimitName) → JudgesNames stage → JudgesPrograms stage → StopsLimited texts name → StopsBy stage texts (status.Limit name)
by_limit stage texts name names programs (inl stop) = by_unnamed stage texts name names stop
by_limit stage texts name names programs (inr stop) = not_accepted programs (limited name) stop refl

pub stops_by : (stage : Stage) (texts : List (List ℕ)) (end : Status) → StopsTexts stage texts end → StopsBy stage texts end
stops_by stage texts (status.Syntax place kind) stop = treeless stop
stops_by parsing texts (status.Limit name) stop = treeless stop
stops_by naming texts (status.Limit name) stop = by_unnamed naming texts name tt stop
stops_by judging texts (status.Limit name) stop = by_limit judging texts name tt tt stop
stops_by lowering texts (status.Limit name) (inl stop) = by_limit lowering texts name tt tt stop
stops_by lowering texts (status.Limit name) (inr stop) = not_lowered tt name stop refl
stops_by parsing texts (status.Refused fault) stop = absurd stop
stops_by naming texts (status.Refused fault) stop = unresolved tt stop (λ e. cc)
stops_by judging texts (status.Refused fault) (inl stop) = unresolved tt stop (λ e. cc)
stops_by judging texts (status.Refused fault) (inr stop) = not_accepted tt (refused fault) stop refl
stops_by lowering texts (status.Refused fault) (inl stop) = unresolved tt stop (λ e. cc)
stops_by lowering texts (status.Refused fault) (inr stop) = not_accepted tt (refused fault) stop refl
stops_by stage texts status.Ended stop = absurd stop
stops_by stage texts status.Usage stop = absurd stop
stops_by stage texts (status.Unread number) stop = absurd stop
stops_by stage texts (status.Trap kind place) stop = absurd stop
stops_by stage texts status.TooDeep stop = absurd stop
stops_by stage texts status.Spent stop = absurd stop
stops_by stage texts (status.DeviceFailed grant op) stop = absurd stop
stops_by stage texts status.Unwritten stop = absurd stop
stops_by stage texts (status.BadCert at) stop = absurd stop
stops_by stage texts (status.Unproved scope test index) stop = absurd stop
stops_by stage texts (status.Denied line instance atom) stop = absurd stop
stops_by stage texts (status.BadPolicy line) stop = absurd stop
stops_by stage texts status.Memory stop = absurd stop

-- no file is treeless by a status that says so of none
pub never : (end : Status) → ((file : ℕ) (bytes : List ℕ) → HasNoTree file bytes end → ⊥) → (file : ℕ) (texts : List (List ℕ)) → FirstNoTree file texts end → ⊥
never end none file [] first = first
never end none file (x ∷ xs) (inl here) = none file x here
never end none file (x ∷ xs) (inr later) = never end none _ xs later.2

pub stops_treeless : (stage : Stage) (texts : List (List ℕ)) (end : Status) → FirstNoTree 1 texts end → StopsTexts stage texts end
stops_treeless stage texts (status.Syntax place kind) first = first
stops_treeless parsing texts (status.Limit name) first = first
stops_treeless naming texts (status.Limit name) first = inl first
stops_treeless judging texts (status.Limit name) first = inl (inl first)
stops_treeless lowering texts (status.Limit name) first = inl (inl (inl first))
stops_treeless stage texts (status.Refused fault) first = absurd (never (status.Refused fault) (λ file bytes h. h) 1 texts first)
stops_treeless stage texts status.Ended first = absurd (never status.Ended (λ file bytes h. h) 1 texts first)
stops_treeless stage texts status.Usage first = absurd (never status.Usage (λ file bytes h. h) 1 texts first)
stops_treeless stage texts (status.Unread number) first = absurd (never (status.Unread number) (λ file bytes h. h) 1 texts first)
stops_treeless stage texts (status.Trap kind place) first = absurd (never (status.Trap kind place) (λ file bytes h. h) 1 texts first)
stops_treeless stage texts status.TooDeep first = absurd (never status.TooDeep (λ file bytes h. h) 1 texts first)
stops_treeless stage texts status.Spent first = absurd (never status.Spent (λ file bytes h. h) 1 texts first)
stops_treeless stage texts (status.DeviceFailed grant op) first = absurd (never (status.DeviceFailed grant op) (λ file bytes h. h) 1 texts first)
stops_treeless stage texts status.Unwritten first = absurd (never status.Unwritten (λ file bytes h. h) 1 texts first)
stops_treeless stage texts status.Memory first = absurd (never status.Memory (λ file bytes h. h) 1 texts first)
stops_treeless stage texts (status.BadCert at) first = absurd (never (status.BadCert at) (λ file bytes h. h) 1 texts first)
stops_treeless stage texts (status.Unproved scope test index) first = absurd (never (status.Unproved scope test index) (λ file bytes h. h) 1 texts first)
stops_treeless stage texts (status.Denied line instance atom) first = absurd (never (status.Denied line instance atom) (λ file bytes h. h) 1 texts first)
stops_treeless stage texts (status.BadPolicy line) first = absurd (never (status.BadPolicy line) (λ file bytes h. h) 1 texts first)

pub stops_ended : (stage : Stage) (texts : List (List ℕ)) (why : End) → JudgesPrograms stage → EndsJudging texts why → StopsTexts stage texts (end_status why)
stops_ended parsing texts why judges is = absurd judges
stops_ended naming texts why judges is = absurd judges
stops_ended judging texts (limited name) judges is = inr is
stops_ended judging texts (refused fault) judges is = inr is
stops_ended lowering texts (limited name) judges is = inl (inr is)
stops_ended lowering texts (refused fault) judges is = inr is

-- the commands that run programs
pub runs_programs : (asked : Command) (way : Mode) → asked ≡ running way → RunsPrograms asked
runs_programs asked mode.Silent is = subst (λ (c : Command). RunsPrograms c) (sym is) tt
runs_programs asked mode.Traced is = subst (λ (c : Command). RunsPrograms c) (sym is) tt
runs_programs asked mode.Observed is = subst (λ (c : Command). RunsPrograms c) (sym is) tt
runs_programs asked (mode.Summed number) is = subst (λ (c : Command). RunsPrograms c) (sym is) tt

pub lowers_programs : (asked : Command) (way : Mode) → asked ≡ running way → LowersPrograms (stage_of asked)
lowers_programs asked mode.Silent is = subst (λ (c : Command). LowersPrograms (stage_of c)) (sym is) tt
lowers_programs asked mode.Traced is = subst (λ (c : Command). LowersPrograms (stage_of c)) (sym is) tt
lowers_programs asked mode.Observed is = subst (λ (c : Command). LowersPrograms (stage_of c)) (sym is) tt
lowers_programs asked (mode.Summed number) is = subst (λ (c : Command). LowersPrograms (stage_of c)) (sym is) tt

pub stops_lowered : (stage : Stage) (texts : List (List ℕ)) (name : LimitName) → LowersPrograms stage → EndsLowering texts name → StopsTexts stage texts (status.Limit name)
stops_lowered parsing texts name lowers is = absurd lowers
stops_lowered naming texts name lowers is = absurd lowers
stops_lowered judging texts name lowers is = absurd lowers
stops_lowered lowering texts name lowers is = inr is

pub stops_of : (stage : Stage) (texts : List (List ℕ)) (end : Status) → StopsBy stage texts end → StopsTexts stage texts end
stops_of stage texts end (treeless first) = stops_treeless stage texts end first
stops_of stage texts end (unresolved judges stop full) = stops_names stage texts end judges stop full
stops_of stage texts end (not_accepted judges why stop named) = subst (λ (s : Status). StopsTexts stage texts s) (sym named) (stops_ended stage texts why judges stop)
stops_of stage texts end (not_lowered lowers name stop named) = subst (λ (s : Status). StopsTexts stage texts s) (sym named) (stops_lowered stage texts name lowers stop)

-- ---- texts whose names resolve

hold_or_treeless : (texts : List (List ℕ)) (program : Program) (end : Status) → ResolveTo texts program → FirstNoTree 1 texts end → ⊥
hold_or_treeless texts program end read first = trees_or_none 1 texts read.trees end read.have first

hold_or_stop : (texts : List (List ℕ)) (program : Program) (end : Status) → ResolveTo texts program → NamesStop texts end → end ≢ status.Memory → ⊥
hold_or_stop texts program end read stop full = resolve_or_stop texts read.trees end read.have (record { program = program; resolves = read.resolves }) stop full

-- ---- texts have one answer

is_core : ResolvedIsCore → (texts : List (List ℕ)) (program : Program) → ResolveTo texts program → IsCore program
is_core law texts program read = law (all_items read.trees) program read.resolves

same_end : ResolvedIsCore → (texts : List (List ℕ)) (why other : End) → EndsJudging texts why → EndsJudging texts other → why ≡ other
same_end law texts why other a b =
    let same : b.program ≡ a.program = one_program texts b.program a.program b.read a.read in
    one_end a.program why other (is_core law texts a.program a.read) a.ends (subst (λ (p : Program). IsEnd p other) same b.ends)

pass_or_end : ResolvedIsCore → (texts : List (List ℕ)) (program : Program) (why : End) → Passes texts program → EndsJudging texts why → ⊥
pass_or_end law texts program why a b =
    let same : b.program ≡ program = one_program texts b.program program b.read a.read in
    accepted_has_no_end program why (is_core law texts program a.read) a.accepted.accepted a.accepted.within (subst (λ (p : Program). IsEnd p why) same b.ends)

-- the limit that the program of texts passes
same_limit : (texts : List (List ℕ)) (p q : Program) (o : Option LimitName) → ResolveTo texts p → ResolveTo texts q → lowering_limit q (program_starts q) ≡ o → lowering_limit p (program_starts p) ≡ o
same_limit texts p q o a b is = ap (λ (r : Program). lowering_limit r (program_starts r)) (one_program texts p q a b) ∙ is

same_passed : (texts : List (List ℕ)) (name other : LimitName) → EndsLowering texts name → EndsLowering texts other → name ≡ other
same_passed texts name other a b =
    let e : Some name ≡ Some other = sym a.passed ∙ same_limit texts a.program b.program (Some other) a.passes.read b.passes.read b.passed in cc

lower_or_run : (texts : List (List ℕ)) (program : Program) (name : LimitName) → Runnable texts program → EndsLowering texts name → ⊥
lower_or_run texts program name a b =
    let e : None ≡ Some name = sym a.within ∙ same_limit texts program b.program (Some name) a.passes.read b.passes.read b.passed in cc

same_stop : ResolvedIsCore → (stage : Stage) (texts : List (List ℕ)) (end other : Status) → StopsBy stage texts end → StopsBy stage texts other → end ≡ other
same_stop law stage texts end other (treeless a) (treeless b) = one_first 1 texts end other a b
same_stop law stage texts end other (treeless a) (unresolved judges b full) = absurd (trees_or_none 1 texts b.trees end b.have a)
same_stop law stage texts end other (treeless a) (not_accepted judges why b named) = absurd (hold_or_treeless texts b.program end b.read a)
same_stop law stage texts end other (treeless a) (not_lowered run name b named) = absurd (hold_or_treeless texts b.program end b.passes.read a)
same_stop law stage texts end other (unresolved judges a full) (treeless b) = absurd (trees_or_none 1 texts a.trees other a.have b)
same_stop law stage texts end other (unresolved judges a full) (unresolved judges' b full') = one_names_stop texts end other a b full full'
same_stop law stage texts end other (unresolved judges a full) (not_accepted judges' why b named) = absurd (hold_or_stop texts b.program end b.read a full)
same_stop law stage texts end other (unresolved judges a full) (not_lowered run name b named) = absurd (hold_or_stop texts b.program end b.passes.read a full)
same_stop law stage texts end other (not_accepted judges why a named) (treeless b) = absurd (hold_or_treeless texts a.program other a.read b)
same_stop law stage texts end other (not_accepted judges why a named) (unresolved judges' b full) = absurd (hold_or_stop texts a.program other a.read b full)
same_stop law stage texts end other (not_accepted judges why a named) (not_accepted judges' why' b named') = named ∙ ap end_status (same_end law texts why why' a b) ∙ sym named'
same_stop law stage texts end other (not_accepted judges why a named) (not_lowered run name b named') = absurd (pass_or_end law texts b.program why b.passes a)
same_stop law stage texts end other (not_lowered run name a named) (treeless b) = absurd (hold_or_treeless texts a.program other a.passes.read b)
same_stop law stage texts end other (not_lowered run name a named) (unresolved judges b full) = absurd (hold_or_stop texts a.program other a.passes.read b full)
same_stop law stage texts end other (not_lowered run name a named) (not_accepted judges why b named') = absurd (pass_or_end law texts a.program why a.passes b)
same_stop law stage texts end other (not_lowered run name a named) (not_lowered run' name' b named') = named ∙ ap status.Limit (same_passed texts name name' a b) ∙ sym named'

one_text_stop : ResolvedIsCore → (stage : Stage) (texts : List (List ℕ)) (end other : Status) → StopsTexts stage texts end → StopsTexts stage texts other → end ≡ other
one_text_stop law stage texts end other a b = same_stop law stage texts end other (stops_by stage texts end a) (stops_by stage texts other b)

-- texts that pass stop a call by no more than a limit of lowering
pass_or_stop : ResolvedIsCore → (stage : Stage) (texts : List (List ℕ)) (program : Program) (end : Status) → Passes texts program → ((name : LimitName) → LowersPrograms stage → EndsLowering texts name → ⊥)
    → StopsBy stage texts end → ⊥
pass_or_stop law stage texts program end a none (treeless b) = hold_or_treeless texts program end a.read b
pass_or_stop law stage texts program end a none (unresolved judges b full) = hold_or_stop texts program end a.read b full
pass_or_stop law stage texts program end a none (not_accepted judges why b named) = pass_or_end law texts program why a b
pass_or_stop law stage texts program end a none (not_lowered run name b named) = none name run b

-- .. and texts whose names resolve do not stop one that goes no further
named_or_stop : (texts : List (List ℕ)) (program : Program) (end : Status) → ResolveTo texts program → StopsBy naming texts end → ⊥
named_or_stop texts program end a (treeless b) = hold_or_treeless texts program end a b
named_or_stop texts program end a (unresolved judges b full) = hold_or_stop texts program end a b full
named_or_stop texts program end a (not_accepted judges why b named) = judges
named_or_stop texts program end a (not_lowered lowers name b named) = lowers

-- ---- files under a policy

first_of : {x y : List ℕ} {xs ys : List (List ℕ)} → x ∷ xs ≡ y ∷ ys → x ≡ y
first_of e = cc

others_of : {x y : List ℕ} {xs ys : List (List ℕ)} → x ∷ xs ≡ y ∷ ys → xs ≡ ys
others_of e = cc

same_policy : (files : List (List ℕ)) (a b : UnderPolicy files) → a.policy ≡ b.policy
same_policy files a b = first_of (sym a.split ∙ b.split)

same_program : (files : List (List ℕ)) (a b : UnderPolicy files) → a.program ≡ b.program
same_program files a b =
    let texts : a.texts ≡ b.texts = others_of (sym a.split ∙ b.split) in
    one_program b.texts a.program b.program (subst (λ (ts : List (List ℕ)). ResolveTo ts a.program) texts a.passes.read) b.passes.read

-- what bytes say of a program, they say of these
same_refusal : (files : List (List ℕ)) (a b : UnderPolicy files) (end : Status) → Refuses a.policy (authority_of a.program) end → Refuses b.policy (authority_of b.program) end
same_refusal files a b end is =
    subst (λ (p : Program). Refuses b.policy (authority_of p) end) (same_program files a b)
    (subst (λ (bytes : List ℕ). Refuses bytes (authority_of a.program) end) (same_policy files a b) is)

one_policy_stop : (files : List (List ℕ)) (end other : Status) → StopsByPolicy files end → StopsByPolicy files other → end ≡ other
one_policy_stop files end other a b = one_refusal b.under.policy (authority_of b.under.program) end other (same_refusal files a.under b.under end a.refuses) b.refuses

keeps_or_stops : (files : List (List ℕ)) (end : Status) → KeepsToPolicy files → StopsByPolicy files end → ⊥
keeps_or_stops files end a b = allowed_or_refused a.under.policy (authority_of a.under.program) a.rows end a.is a.allowed (same_refusal files b.under a.under end b.refuses)

-- under a policy the texts behind it do not stop the call
under_or_stop : ResolvedIsCore → (asked : Command) (files : List (List ℕ)) (end : Status) → asked ≡ command.Policy → UnderPolicy files → StopsTexts (stage_of asked) (texts_among asked files) end → ⊥
under_or_stop law asked files end policy under stop =
    let named : StopsTexts judging (texts_among command.Policy files) end = subst (λ (c : Command). StopsTexts (stage_of c) (texts_among c files) end) policy stop in
    let behind : StopsTexts judging under.texts end = subst (λ (fs : List (List ℕ)). StopsTexts judging (texts_among command.Policy fs) end) under.split named in
    pass_or_stop law judging under.texts under.program end under.passes (λ name lowers ends. lowers) (stops_by judging under.texts end behind)

-- ---- files under a certificate

one_certificate : (files : List (List ℕ)) (a b : UnderCertificate files) → a.bytes ≡ b.bytes
one_certificate files a b = first_of (sym a.split ∙ b.split)

same_behind : (files : List (List ℕ)) (a b : UnderCertificate files) → a.texts ≡ b.texts
same_behind files a b = others_of (sym a.split ∙ b.split)

large_or_within : (files : List (List ℕ)) (a : HasLargeCertificate files) (b : UnderCertificate files) → length b.bytes ≤ most_certificate → ⊥
large_or_within files a b within =
    let large : most_certificate < length b.bytes = subst (λ (bytes : List ℕ). most_certificate < length bytes) (one_certificate files a.under b) a.large in
    omega (arith, large, within)

large_or_texts : (asked : Command) (files : List (List ℕ)) → asked ≡ command.Recheck → HasLargeCertificate files → HasNoLargeCertificate asked files → ⊥
large_or_texts asked files recheck large none =
    let within : HasNoLargeCertificate command.Recheck files = subst (λ (c : Command). HasNoLargeCertificate c files) recheck none in
    let small : length large.under.bytes ≤ most_certificate = subst (λ (fs : List (List ℕ)). HasNoLargeCertificate command.Recheck fs) large.under.split within in
    large_or_within files large large.under small

-- the texts behind it resolve to one program
same_behind_program : (files : List (List ℕ)) (p q : Program) → ResolveBehind files p → ResolveBehind files q → p ≡ q
same_behind_program files p q a b =
    one_program b.under.texts p q (subst (λ (ts : List (List ℕ)). ResolveTo ts p) (same_behind files a.under b.under) a.read) b.read

-- .. and do not stop the call
behind_or_stop : (asked : Command) (files : List (List ℕ)) (program : Program) (end : Status) → asked ≡ command.Recheck → ResolveBehind files program → StopsTexts (stage_of asked) (texts_among asked files) end → ⊥
behind_or_stop asked files program end recheck behind stop =
    let named : StopsTexts naming (texts_among command.Recheck files) end = subst (λ (c : Command). StopsTexts (stage_of c) (texts_among c files) end) recheck stop in
    let texts : StopsTexts naming behind.under.texts end = subst (λ (fs : List (List ℕ)). StopsTexts naming (texts_among command.Recheck fs) end) behind.under.split named in
    named_or_stop behind.under.texts program end behind.read (stops_by naming behind.under.texts end texts)

behind_is_core : ResolvedIsCore → (files : List (List ℕ)) (program : Program) → ResolveBehind files program → IsCore program
behind_is_core law files program behind = is_core law behind.under.texts program behind.read

-- what bytes say of a program, they say of these
same_disproof : (files : List (List ℕ)) (p q : Program) (a : ResolveBehind files p) (b : ResolveBehind files q) (end : Status) → Disproves a.under.bytes p end → Disproves b.under.bytes q end
same_disproof files p q a b end is =
    subst (λ (r : Program). Disproves b.under.bytes r end) (same_behind_program files p q a b)
    (subst (λ (bytes : List ℕ). Disproves bytes p end) (one_certificate files a.under b.under) is)

one_certificate_stop : ResolvedIsCore → (files : List (List ℕ)) (end other : Status) → StopsByCertificate files end → StopsByCertificate files other → end ≡ other
one_certificate_stop law files end other a b =
    one_disproof b.program (behind_is_core law files b.program b.resolve) b.resolve.under.bytes end other
    (same_disproof files a.program b.program a.resolve b.resolve end a.disproves) b.disproves

proves_or_stops : ResolvedIsCore → (files : List (List ℕ)) (program : Program) (end : Status) → ProvesTexts files program → StopsByCertificate files end → ⊥
proves_or_stops law files program end a b =
    proved_or_disproved program (behind_is_core law files program a.resolve) a.resolve.under.bytes end a.proves
    (same_disproof files b.program program b.resolve a.resolve end b.disproves)

-- texts that pass do not stop `certify`
certified_or_stop : ResolvedIsCore → (asked : Command) (texts : List (List ℕ)) (program : Program) (end : Status) → asked ≡ command.Certify → Passes texts program → StopsTexts (stage_of asked) (texts_among asked texts) end → ⊥
certified_or_stop law asked texts program end certify passes stop =
    let named : StopsTexts judging texts end = subst (λ (c : Command). StopsTexts (stage_of c) (texts_among c texts) end) certify stop in
    pass_or_stop law judging texts program end passes (λ name lowers ends. lowers) (stops_by judging texts end named)

-- two commands that are not one
differ : {asked one other : Command} → one ≢ other → asked ≡ one → asked ≡ other → ⊥
differ apart a b = apart (sym a ∙ b)

pub one_stop : ResolvedIsCore → (asked : Command) (files : List (List ℕ)) (end other : Status) → Stops asked files end → Stops asked files other → end ≡ other
one_stop law asked files end other (by_size recheck a is) (by_size recheck' b is') = is ∙ sym is'
one_stop law asked files end other (by_size recheck a is) (by_texts none b) = absurd (large_or_texts asked files recheck a none)
one_stop law asked files end other (by_size recheck a is) (by_policy policy b) = absurd (differ (λ e. cc) recheck policy)
one_stop law asked files end other (by_size recheck a is) (by_length certify b is') = absurd (differ (λ e. cc) recheck certify)
one_stop law asked files end other (by_size recheck a is) (by_certificate recheck' b) = absurd (large_or_within files a b.resolve.under b.resolve.within)
one_stop law asked files end other (by_texts none a) (by_size recheck b is) = absurd (large_or_texts asked files recheck b none)
one_stop law asked files end other (by_texts none a) (by_texts none' b) = one_text_stop law (stage_of asked) (texts_among asked files) end other a b
one_stop law asked files end other (by_texts none a) (by_policy policy b) = absurd (under_or_stop law asked files end policy b.under a)
one_stop law asked files end other (by_texts none a) (by_length certify b is) = absurd (certified_or_stop law asked files b.program end certify b.passes a)
one_stop law asked files end other (by_texts none a) (by_certificate recheck b) = absurd (behind_or_stop asked files b.program end recheck b.resolve a)
one_stop law asked files end other (by_policy policy a) (by_size recheck b is) = absurd (differ (λ e. cc) recheck policy)
one_stop law asked files end other (by_policy policy a) (by_texts none b) = absurd (under_or_stop law asked files other policy a.under b)
one_stop law asked files end other (by_policy policy a) (by_policy policy' b) = one_policy_stop files end other a b
one_stop law asked files end other (by_policy policy a) (by_length certify b is) = absurd (differ (λ e. cc) policy certify)
one_stop law asked files end other (by_policy policy a) (by_certificate recheck b) = absurd (differ (λ e. cc) policy recheck)
one_stop law asked files end other (by_length certify a is) (by_size recheck b is') = absurd (differ (λ e. cc) certify recheck)
one_stop law asked files end other (by_length certify a is) (by_texts none b) = absurd (certified_or_stop law asked files a.program other certify a.passes b)
one_stop law asked files end other (by_length certify a is) (by_policy policy b) = absurd (differ (λ e. cc) certify policy)
one_stop law asked files end other (by_length certify a is) (by_length certify' b is') = is ∙ sym is'
one_stop law asked files end other (by_length certify a is) (by_certificate recheck b) = absurd (differ (λ e. cc) certify recheck)
one_stop law asked files end other (by_certificate recheck a) (by_size recheck' b is) = absurd (large_or_within files b a.resolve.under a.resolve.within)
one_stop law asked files end other (by_certificate recheck a) (by_texts none b) = absurd (behind_or_stop asked files a.program other recheck a.resolve b)
one_stop law asked files end other (by_certificate recheck a) (by_policy policy b) = absurd (differ (λ e. cc) recheck policy)
one_stop law asked files end other (by_certificate recheck a) (by_length certify b is) = absurd (differ (λ e. cc) recheck certify)
one_stop law asked files end other (by_certificate recheck a) (by_certificate recheck' b) = one_certificate_stop law files end other a b

-- ---- what a command asks for

abbrev AsksBy : Command → List (List ℕ) → Did → Type 0
AsksBy command.Check texts did = (program : Program) × Passes texts program × (did ≡ checked)
AsksBy command.Authority texts did = (program : Program) × Passes texts program × (did ≡ reported program)
AsksBy command.Run texts did = (program : Program) × Runnable texts program × (did ≡ ran program)
AsksBy command.Trace texts did = (program : Program) × Runnable texts program × (did ≡ ran program)
AsksBy command.Observe texts did = (program : Program) × Runnable texts program × (did ≡ ran program)
AsksBy command.Sample texts did = (program : Program) × Runnable texts program × (did ≡ ran program)
AsksBy command.Format texts did = (tree : List ItemTree) × HaveTrees 1 texts (tree ∷ []) × (did ≡ formatted tree)
AsksBy command.Policy files did = KeepsToPolicy files × (did ≡ permitted)
AsksBy command.Certify texts did = (program : Program) × HasCertificate texts program × (did ≡ certified program)
AsksBy command.Recheck files did = (program : Program) × ProvesTexts files program × (did ≡ proved program)

asks_by : (asked : Command) (texts : List (List ℕ)) (did : Did) → Asks asked texts did → AsksBy asked texts did
asks_by command.Check texts checked asks = (asks.0, asks.1, refl)
asks_by command.Authority texts (reported program) asks = (program, asks, refl)
asks_by command.Run texts (ran program) asks = (program, asks, refl)
asks_by command.Trace texts (ran program) asks = (program, asks, refl)
asks_by command.Observe texts (ran program) asks = (program, asks, refl)
asks_by command.Sample texts (ran program) asks = (program, asks, refl)
asks_by command.Format texts (formatted tree) asks = (tree, asks, refl)
asks_by command.Policy files permitted asks = (asks, refl)
asks_by command.Certify texts (certified program) asks = (program, asks, refl)
asks_by command.Recheck files (proved program) asks = (program, asks, refl)
asks_by asked texts other asks = absurd asks

form_or_stop : (texts : List (List ℕ)) (tree : List ItemTree) (end : Status) → HaveTrees 1 texts (tree ∷ []) → StopsBy parsing texts end → ⊥
form_or_stop texts tree end a (treeless b) = trees_or_none 1 texts (tree ∷ []) end a b
form_or_stop texts tree end a (unresolved judges b full) = judges
form_or_stop texts tree end a (not_accepted judges why b named) = judges
form_or_stop texts tree end a (not_lowered lowers name b named) = lowers

-- texts that can run do not stop a call that runs them
run_or_stop : ResolvedIsCore → (texts : List (List ℕ)) (program : Program) (end : Status) → Runnable texts program → StopsBy lowering texts end → ⊥
run_or_stop law texts program end a b = pass_or_stop law lowering texts program end a.passes (λ name lowers ends. lower_or_run texts program name a ends) b

judge_or_stop : ResolvedIsCore → (texts : List (List ℕ)) (program : Program) (end : Status) → Passes texts program → StopsBy judging texts end → ⊥
judge_or_stop law texts program end a b = pass_or_stop law judging texts program end a (λ name lowers ends. lowers) b

asks_or_stops : ResolvedIsCore → (asked : Command) (files : List (List ℕ)) (did : Did) (end : Status) → AsksBy asked files did → StopsTexts (stage_of asked) (texts_among asked files) end → ⊥
asks_or_stops law command.Check texts did end a b = judge_or_stop law texts a.0 end a.1 (stops_by judging texts end b)
asks_or_stops law command.Authority texts did end a b = judge_or_stop law texts a.0 end a.1 (stops_by judging texts end b)
asks_or_stops law command.Run texts did end a b = run_or_stop law texts a.0 end a.1 (stops_by lowering texts end b)
asks_or_stops law command.Trace texts did end a b = run_or_stop law texts a.0 end a.1 (stops_by lowering texts end b)
asks_or_stops law command.Observe texts did end a b = run_or_stop law texts a.0 end a.1 (stops_by lowering texts end b)
asks_or_stops law command.Sample texts did end a b = run_or_stop law texts a.0 end a.1 (stops_by lowering texts end b)
asks_or_stops law command.Format texts did end a b = form_or_stop texts a.0 end a.1 (stops_by parsing texts end b)
asks_or_stops law command.Policy files did end a b = under_or_stop law command.Policy files end refl a.0.under b
asks_or_stops law command.Certify texts did end a b = judge_or_stop law texts a.0 end a.1.passes (stops_by judging texts end b)
asks_or_stops law command.Recheck files did end a b = behind_or_stop command.Recheck files a.0 end refl a.1.resolve b

-- what a command asks for is what it does, where that is the one
asks_as : (asked named : Command) (files : List (List ℕ)) (did : Did) → asked ≡ named → Asks asked files did → AsksBy named files did
asks_as asked named files did is a = subst (λ (c : Command). AsksBy c files did) is (asks_by asked files did a)

pub ask_or_stop : ResolvedIsCore → OneSize → (asked : Command) (files : List (List ℕ)) (did : Did) (end : Status) → Asks asked files did → Stops asked files end → ⊥
ask_or_stop law size asked files did end a (by_texts none b) = asks_or_stops law asked files did end (asks_by asked files did a) b
ask_or_stop law size asked files did end a (by_policy policy b) = keeps_or_stops files end (asks_as asked command.Policy files did policy a).0 b
ask_or_stop law size asked files did end a (by_size recheck b is) =
    let proves = (asks_as asked command.Recheck files did recheck a).1 in
    large_or_within files b proves.resolve.under proves.resolve.within
ask_or_stop law size asked files did end a (by_certificate recheck b) = (let asks = asks_as asked command.Recheck files did recheck a in proves_or_stops law files asks.0 end asks.1 b)
ask_or_stop law size asked files did end a (by_length certify b is) =
    let asks = asks_as asked command.Certify files did certify a in
    let same : b.program ≡ asks.0 = one_program files b.program asks.0 b.passes.read asks.1.passes.read in
    certified_or_long size asks.0 asks.1.bytes asks.1.is (subst (λ (p : Program). IsTooLong p) same b.long)

same_ask : (asked : Command) (texts : List (List ℕ)) (did other : Did) → AsksBy asked texts did → AsksBy asked texts other → did ≡ other
same_ask command.Check texts did other a b = a.2 ∙ sym b.2
same_ask command.Authority texts did other a b = a.2 ∙ ap reported (one_program texts a.0 b.0 a.1.read b.1.read) ∙ sym b.2
same_ask command.Run texts did other a b = a.2 ∙ ap ran (one_program texts a.0 b.0 a.1.passes.read b.1.passes.read) ∙ sym b.2
same_ask command.Trace texts did other a b = a.2 ∙ ap ran (one_program texts a.0 b.0 a.1.passes.read b.1.passes.read) ∙ sym b.2
same_ask command.Observe texts did other a b = a.2 ∙ ap ran (one_program texts a.0 b.0 a.1.passes.read b.1.passes.read) ∙ sym b.2
same_ask command.Sample texts did other a b = a.2 ∙ ap ran (one_program texts a.0 b.0 a.1.passes.read b.1.passes.read) ∙ sym b.2
same_ask command.Format texts did other a b =
    let same : a.0 ∷ [] ≡ b.0 ∷ [] = same_trees 1 texts (a.0 ∷ []) (b.0 ∷ []) a.1 b.1 in
    let tree : a.0 ≡ b.0 = cc in
    a.2 ∙ ap formatted tree ∙ sym b.2
same_ask command.Policy files did other a b = a.1 ∙ sym b.1
same_ask command.Certify texts did other a b = a.2 ∙ ap certified (one_program texts a.0 b.0 a.1.passes.read b.1.passes.read) ∙ sym b.2
same_ask command.Recheck files did other a b = a.2 ∙ ap proved (same_behind_program files a.0 b.0 a.1.resolve b.1.resolve) ∙ sym b.2

pub one_ask : (asked : Command) (texts : List (List ℕ)) (did other : Did) → Asks asked texts did → Asks asked texts other → did ≡ other
one_ask asked texts did other a b = same_ask asked texts did other (asks_by asked texts did a) (asks_by asked texts other b)
