-- The texts that a shelf tells, and those that were read from it: reading no more than one byte past the limit on a
-- file's bytes changes nothing of what the texts say.
use Rattle.std.proofs.Common.{◌≡◌, ◌⊎◌, inl, inr, ◌<◌, ◌≤◌, ℕ, suc, List, [], ◌∷◌, Option, Some, None, refl, sym, ◌∙◌, ap, ap₂, subst, arith, length, take, map, min, ◌+◌}
use Rattle.std.specs.Option.{option_and_then, option_map}
use Rattle.std.proofs.lemmas.List.{length-take, take_all}
use Rattle.wy_text.specs.Shelf.{GivesFile, ShelfState, file_named}
use Rattle.wy_text.specs.declared.shelf.NamedText.{NamedText}
use Rattle.wy_layout.specs.Counts.{most_file_bytes}
use Rattle.wy_syntax.specs.Trees.{ItemTree}
use Rattle.wy_types.specs.Program.{Program}
use Rattle.wy_authority.specs.Authority.{authority_of}
use Rattle.wy_authority.specs.declared.rows.Authority.{Authority}
use Rattle.wy_policy.specs.Allowed.{Allowed}
use Rattle.wy_policy.specs.Policy.{HasTooMany, IsBad, IsPolicy, IsRefused}
use Rattle.wy_policy.specs.declared.policy.PolicyRefusal.{PolicyRefusal}
use Rattle.wy_policy.specs.declared.policy.PolicyRefusal.TheVariants as unread
use Rattle.wy_policy.specs.declared.policy.PolicyRow.{PolicyRow}
use Rattle.wy_canonical.specs.HasTree.{HasTree}
use Rattle.wy_engine.specs.FileTrees.{FirstNoTree, HasNoTree, HaveTrees}
use Rattle.wy_recheck.specs.ProvedBy.{IsProvedBy}
use Rattle.wy_engine.specs.Certificates.{Disproves, HasLargeCertificate, HasNoLargeCertificate, ProvesTexts, ResolveBehind, StopsByCertificate, UnderCertificate, most_certificate}
use Rattle.wy_engine.specs.Certifying.{EndsCertifying}
use Rattle.wy_engine.specs.Judgement.{KeepsToPolicy, Refuses, Runnable, Stage, Stops, StopsByPolicy, StopsTexts, UnderPolicy, by_certificate, by_length, by_policy, by_size, by_texts, running, stage_of}
use Rattle.wy_engine.specs.Passing.{Passes}
use Rattle.wy_engine.specs.NameFaults.{NamesStop, ResolveTo}
use Rattle.wy_engine.specs.Given.{texts_of}
use Rattle.wy_engine.specs.Texts.{GivesFiles, asked_bytes, first_bytes}
use Rattle.wy_settings.specs.Settings.{texts_among}
use Rattle.wy_settings.specs.declared.command_line.Command.{Command}
use Rattle.wy_settings.specs.declared.command_line.Command.TheVariants as command
use Rattle.wy_engine.specs.declared.running.Mode.{Mode}
use Rattle.wy_engine.specs.declared.running.Mode.TheVariants as mode
use Rattle.wy_engine.specs.declared.status.Status.{Status}
use Rattle.wy_engine.specs.declared.status.Status.TheVariants as status
use Rattle.wy_engine.proofs.OneAnswer.{StopsBy, not_accepted, not_lowered, stops_by, stops_of, treeless, unresolved}
use Rattle.wy_engine.proofs.OneTree.{IsWhy, Why, large, none_of, reason_of, unexpected, wrong}

-- what is read of a text
abbrev pub cut : List ℕ → List ℕ
cut text = take asked_bytes text

-- .. of texts, where so much is read of the first
abbrev pub cut_all : ℕ → List (List ℕ) → List (List ℕ)
cut_all first [] = []
cut_all first (text ∷ texts) = take first text ∷ map cut texts

alike : (texts : List (List ℕ)) → cut_all asked_bytes texts ≡ map cut texts
alike [] = refl
alike (text ∷ texts) = refl

-- ---- which texts were read

-- the rest of the texts, where the first is found
record TextsSplit (rest : Option (List (List ℕ))) (text : List ℕ) (texts : List (List ℕ)) : Type 0 where
  more : List (List ℕ)
  rest_is : rest ≡ Some more
  texts_are : texts ≡ text ∷ more

texts_split : (found : Option (List ℕ)) (rest : Option (List (List ℕ))) (text : List ℕ) (texts : List (List ℕ)) → option_and_then (λ t. option_map (λ ts. t ∷ ts) rest) found ≡ Some texts
    → found ≡ Some text → TextsSplit rest text texts
texts_split None rest text texts all one = absurd (cc)
texts_split (Some t) None text texts all one = absurd (cc)
texts_split (Some t) (Some more) text texts all one = record { more = more; rest_is = refl; texts_are = let q : t ≡ text = cc in cc }

pub cut_texts : (first : ℕ) (shelf : ShelfState) (files : List NamedText) (names read texts : List (List ℕ)) → shelf.files ≡ Some files → GivesFiles first shelf names read
    → texts_of files names ≡ Some texts → read ≡ cut_all first texts
cut_texts first shelf files [] [] texts told given found = let q : texts ≡ [] = cc in rw q refl
cut_texts first shelf files [] (t ∷ ts) texts told given found = absurd given
cut_texts first shelf files (n ∷ ns) [] texts told given found = absurd given
cut_texts first shelf files (n ∷ ns) (t ∷ ts) texts told given found =
    let one : GivesFile (Some files) n first t = subst (λ x. GivesFile x n first t) told given.0 in
    let split : TextsSplit (texts_of files ns) one.0 texts = texts_split (file_named n files) (texts_of files ns) one.0 texts found one.1 in
    let rest : ts ≡ map cut split.more = cut_texts asked_bytes shelf files ns ts split.more told given.1 split.rest_is ∙ alike split.more in
    let begins : t ≡ take first one.0 = one.2 in
    let whole : cut_all first texts ≡ take first one.0 ∷ map cut split.more = ap (cut_all first) split.texts_are in
    ap₂ (λ (x : List ℕ) (xs : List (List ℕ)). x ∷ xs) begins rest ∙ sym whole

-- ---- what is read of a text says the same as the text

-- a text that is within the limit is read whole
whole_where : (most : ℕ) (text : List ℕ) → length (take (most + 1) text) ≤ most → take (most + 1) text ≡ text
whole_where most text small = let size : length (take (most + 1) text) ≡ min (most + 1) (length text) = length-take (most + 1) text in take_all (most + 1) text (omega arith)

cut_whole : (text : List ℕ) → length (cut text) ≤ most_file_bytes → cut text ≡ text
cut_whole text small = whole_where 1048576 text small

all_read : (text : List ℕ) → length text ≤ most_file_bytes → cut text ≡ text
all_read text small = take_all 1048577 text (omega arith)

tree_of_cut : (file : ℕ) (text : List ℕ) (tree : List ItemTree) → HasTree file (cut text) tree → HasTree file text tree
tree_of_cut file text tree has = subst (λ (x : List ℕ). HasTree file x tree) (cut_whole text has.lexed.short) has

tree_cut : (file : ℕ) (text : List ℕ) (tree : List ItemTree) → HasTree file text tree → HasTree file (cut text) tree
tree_cut file text tree has = subst (λ (x : List ℕ). HasTree file x tree) (sym (all_read text has.lexed.short)) has

larger : (most : ℕ) (text : List ℕ) → most < length (take (most + 1) text) → most < length text
larger most text more = let size : length (take (most + 1) text) ≡ min (most + 1) (length text) = length-take (most + 1) text in omega arith

why_of_cut : (file : ℕ) (text : List ℕ) (why : Why) → IsWhy file (cut text) why → IsWhy file text why
why_of_cut file text (wrong f place) is = subst (λ (x : List ℕ). IsWhy file x (wrong f place)) (cut_whole text is.short) is
why_of_cut file text large is = larger 1048576 text is
why_of_cut file text (unexpected place) is = subst (λ (x : List ℕ). IsWhy file x (unexpected place)) (cut_whole text is.lexed.short) is

none_of_cut : (file : ℕ) (text : List ℕ) (end : Status) → HasNoTree file (cut text) end → HasNoTree file text end
none_of_cut file text end none =
    let w = reason_of file (cut text) end none in
    none_of file text end w.why (why_of_cut file text w.why w.is) w.named

trees_of_cut : (file : ℕ) (texts : List (List ℕ)) (trees : List (List ItemTree)) → HaveTrees file (map cut texts) trees → HaveTrees file texts trees
trees_of_cut file [] [] have = have
trees_of_cut file [] (t ∷ ts) have = have
trees_of_cut file (x ∷ xs) [] have = have
trees_of_cut file (x ∷ xs) (t ∷ ts) have = (tree_of_cut file x t have.0, trees_of_cut (suc file) xs ts have.1)

trees_cut : (file : ℕ) (texts : List (List ℕ)) (trees : List (List ItemTree)) → HaveTrees file texts trees → HaveTrees file (map cut texts) trees
trees_cut file [] [] have = have
trees_cut file [] (t ∷ ts) have = have
trees_cut file (x ∷ xs) [] have = have
trees_cut file (x ∷ xs) (t ∷ ts) have = (tree_cut file x t have.0, trees_cut (suc file) xs ts have.1)

first_of_cut : (file : ℕ) (texts : List (List ℕ)) (end : Status) → FirstNoTree file (map cut texts) end → FirstNoTree file texts end
first_of_cut file [] end first = first
first_of_cut file (x ∷ xs) end (inl here) = inl (none_of_cut file x end here)
first_of_cut file (x ∷ xs) end (inr later) = inr (later.0, tree_of_cut file x later.0 later.1, first_of_cut (suc file) xs end later.2)

names_of_cut : (texts : List (List ℕ)) (end : Status) → NamesStop (map cut texts) end → NamesStop texts end
names_of_cut texts end stop = record { trees = stop.trees; have = trees_of_cut 1 texts stop.trees stop.have; why = stop.why; refused = stop.refused; gives = stop.gives }

core_of_cut : (texts : List (List ℕ)) (program : Program) → ResolveTo (map cut texts) program → ResolveTo texts program
core_of_cut texts program read = record { trees = read.trees; have = trees_of_cut 1 texts read.trees read.have; resolves = read.resolves }

passes_of_cut : (texts : List (List ℕ)) (program : Program) → Passes (map cut texts) program → Passes texts program
passes_of_cut texts program is = record { read = core_of_cut texts program is.read; accepted = is.accepted }

runnable_of_cut : (texts : List (List ℕ)) (program : Program) → Runnable (map cut texts) program → Runnable texts program
runnable_of_cut texts program is = record { passes = passes_of_cut texts program is.passes; within = is.within }

stop_of_cut : (stage : Stage) (texts : List (List ℕ)) (end : Status) → StopsBy stage (map cut texts) end → StopsBy stage texts end
stop_of_cut stage texts end (treeless first) = treeless (first_of_cut 1 texts end first)
stop_of_cut stage texts end (unresolved judges stop full) = unresolved judges (names_of_cut texts end stop) full
stop_of_cut stage texts end (not_accepted judges why is named) = not_accepted judges why (record { program = is.program; read = core_of_cut texts is.program is.read; ends = is.ends }) named
stop_of_cut stage texts end (not_lowered lowers name is named) = not_lowered lowers name (record { program = is.program; passes = passes_of_cut texts is.program is.passes; passed = is.passed }) named

texts_stop_of_cut : (stage : Stage) (texts : List (List ℕ)) (end : Status) → StopsTexts stage (map cut texts) end → StopsTexts stage texts end
texts_stop_of_cut stage texts end stops = stops_of stage texts end (stop_of_cut stage texts end (stops_by stage (map cut texts) end stops))

-- ---- a policy that is read says the same as the policy

policy_of_cut : (bytes : List ℕ) (rows : List PolicyRow) → IsPolicy (cut bytes) rows → IsPolicy bytes rows
policy_of_cut bytes rows is = subst (λ (x : List ℕ). IsPolicy x rows) (cut_whole bytes is.has.short) is

refused_of_cut : (bytes : List ℕ) (why : PolicyRefusal) → IsRefused (cut bytes) why → IsRefused bytes why
refused_of_cut bytes (unread.Limit name) (inl is) = inl (is.0, larger 1048576 bytes is.1)
refused_of_cut bytes (unread.Limit name) (inr is) = inr (is.0, subst HasTooMany (cut_whole bytes is.1.short) is.1)
refused_of_cut bytes (unread.BadPolicy line) is = subst (λ (x : List ℕ). IsBad x line) (cut_whole bytes is.are.short) is
refused_of_cut bytes unread.Memory is = is

refuses_of_cut : (bytes : List ℕ) (a : Authority) (end : Status) → Refuses (cut bytes) a end → Refuses bytes a end
refuses_of_cut bytes a (status.Limit name) is = refused_of_cut bytes (unread.Limit name) is
refuses_of_cut bytes a (status.BadPolicy line) is = refused_of_cut bytes (unread.BadPolicy line) is
refuses_of_cut bytes a (status.Denied line name atom) is = (is.0, policy_of_cut bytes is.0 is.1, is.2)
refuses_of_cut bytes a other is = is

-- what is read of files under a policy, and what they are
record UnderCut (files : List (List ℕ)) (read : UnderPolicy (map cut files)) : Type 0 where
  under : UnderPolicy files
  policy : read.policy ≡ cut under.policy
  program : read.program ≡ under.program

under_of_cut : (files : List (List ℕ)) (read : UnderPolicy (map cut files)) → UnderCut files read
under_of_cut [] read = let e : [] ≡ read.policy ∷ read.texts = read.split in absurd (cc)
under_of_cut (x ∷ xs) read =
    let e : cut x ∷ map cut xs ≡ read.policy ∷ read.texts = read.split in
    let first : read.policy ≡ cut x = cc in
    let texts : read.texts ≡ map cut xs = cc in
    let passes : Passes xs read.program = passes_of_cut xs read.program (subst (λ (ts : List (List ℕ)). Passes ts read.program) texts read.passes) in
    record {
      under = record { policy = x; texts = xs; split = refl; program = read.program; passes = passes };
      policy = first;
      program = refl;
    }

policy_stop_of_cut : (files : List (List ℕ)) (end : Status) → StopsByPolicy (map cut files) end → StopsByPolicy files end
policy_stop_of_cut files end stop =
    let so = under_of_cut files stop.under in
    record {
      under = so.under;
      refuses = refuses_of_cut so.under.policy (authority_of so.under.program) end
          (subst (λ (p : Program). Refuses (cut so.under.policy) (authority_of p) end) so.program
          (subst (λ (bytes : List ℕ). Refuses bytes (authority_of stop.under.program) end) so.policy stop.refuses));
    }

keeps_of_cut : (files : List (List ℕ)) → KeepsToPolicy (map cut files) → KeepsToPolicy files
keeps_of_cut files keeps =
    let so = under_of_cut files keeps.under in
    record {
      under = so.under;
      rows = keeps.rows;
      is = policy_of_cut so.under.policy keeps.rows (subst (λ (bytes : List ℕ). IsPolicy bytes keeps.rows) so.policy keeps.is);
      allowed = subst (λ (p : Program). Allowed keeps.rows (authority_of p)) so.program keeps.allowed;
    }

-- ---- a certificate that is read says the same as the certificate

abbrev first_cut : List ℕ → List ℕ
first_cut bytes = take (most_certificate + 1) bytes

-- what is read of files under a certificate, and what they are
record BehindCut (files : List (List ℕ)) (read : UnderCertificate (cut_all (most_certificate + 1) files)) : Type 0 where
  under : UnderCertificate files
  bytes : read.bytes ≡ first_cut under.bytes
  texts : read.texts ≡ map cut under.texts

behind_cut : (files : List (List ℕ)) (read : UnderCertificate (cut_all (most_certificate + 1) files)) → BehindCut files read
behind_cut [] read = let e : [] ≡ read.bytes ∷ read.texts = read.split in absurd (cc)
behind_cut (x ∷ xs) read =
    let e : first_cut x ∷ map cut xs ≡ read.bytes ∷ read.texts = read.split in
    record { under = record { bytes = x; texts = xs; split = refl }; bytes = cc; texts = cc }

large_of_cut : (files : List (List ℕ)) → HasLargeCertificate (cut_all (most_certificate + 1) files) → HasLargeCertificate files
large_of_cut files much =
    let so = behind_cut files much.under in
    record { under = so.under; large = larger most_certificate so.under.bytes (subst (λ (l : List ℕ). most_certificate < length l) so.bytes much.large) }

-- the certificate is read whole, and the texts behind it resolve to the same program
record ResolvedCut (files : List (List ℕ)) (program : Program) (read : ResolveBehind (cut_all (most_certificate + 1) files) program) : Type 0 where
  behind : ResolveBehind files program
  same : read.under.bytes ≡ behind.under.bytes

resolved_cut : (files : List (List ℕ)) (program : Program) (read : ResolveBehind (cut_all (most_certificate + 1) files) program) → ResolvedCut files program read
resolved_cut files program read =
    let so = behind_cut files read.under in
    let small : length (first_cut so.under.bytes) ≤ most_certificate = subst (λ (l : List ℕ). length l ≤ most_certificate) so.bytes read.within in
    let whole : first_cut so.under.bytes ≡ so.under.bytes = whole_where most_certificate so.under.bytes small in
    record {
      behind = record {
        under = so.under;
        within = subst (λ (l : List ℕ). length l ≤ most_certificate) whole small;
        read = core_of_cut so.under.texts program (subst (λ (ts : List (List ℕ)). ResolveTo ts program) so.texts read.read);
      };
      same = so.bytes ∙ whole;
    }

disproof_of_cut : (files : List (List ℕ)) (end : Status) → StopsByCertificate (cut_all (most_certificate + 1) files) end → StopsByCertificate files end
disproof_of_cut files end stop =
    let so = resolved_cut files stop.program stop.resolve in
    record { program = stop.program; resolve = so.behind; disproves = subst (λ (l : List ℕ). Disproves l stop.program end) so.same stop.disproves }

proof_of_cut : (files : List (List ℕ)) (program : Program) → ProvesTexts (cut_all (most_certificate + 1) files) program → ProvesTexts files program
proof_of_cut files program proves =
    let so = resolved_cut files program proves.resolve in
    record { resolve = so.behind; proves = subst (λ (l : List ℕ). IsProvedBy program l) so.same proves.proves }

-- ---- what is read of a command's files

among_cut : (asked : Command) (files : List (List ℕ)) → texts_among asked (cut_all (first_bytes asked) files) ≡ map cut (texts_among asked files)
among_cut command.Check files = alike files
among_cut command.Authority files = alike files
among_cut command.Run files = alike files
among_cut command.Trace files = alike files
among_cut command.Observe files = alike files
among_cut command.Sample files = alike files
among_cut command.Format files = alike files
among_cut command.Certify files = alike files
among_cut command.Policy [] = refl
among_cut command.Policy (x ∷ xs) = refl
among_cut command.Recheck [] = refl
among_cut command.Recheck (x ∷ xs) = refl

none_large_of_cut : (asked : Command) (files : List (List ℕ)) → HasNoLargeCertificate asked (cut_all (first_bytes asked) files) → HasNoLargeCertificate asked files
none_large_of_cut command.Check files none = tt
none_large_of_cut command.Authority files none = tt
none_large_of_cut command.Run files none = tt
none_large_of_cut command.Trace files none = tt
none_large_of_cut command.Observe files none = tt
none_large_of_cut command.Sample files none = tt
none_large_of_cut command.Format files none = tt
none_large_of_cut command.Certify files none = tt
none_large_of_cut command.Policy files none = tt
none_large_of_cut command.Recheck [] none = tt
none_large_of_cut command.Recheck (x ∷ xs) none = subst (λ (l : List ℕ). length l ≤ most_certificate) (whole_where most_certificate x none) none

-- what holds of what is read of a command's files holds of them, where it does so under the command's name
of_named : (P : List (List ℕ) → Type 0) (asked named : Command) (files : List (List ℕ)) → asked ≡ named → (P (cut_all (first_bytes named) files) → P files) → P (cut_all (first_bytes asked) files) → P files
of_named P asked named files is whole holds = whole (subst (λ (c : Command). P (cut_all (first_bytes c) files)) is holds)

-- .. of files that are all texts or policies
of_alike : (P : List (List ℕ) → Type 0) (files : List (List ℕ)) → (P (map cut files) → P files) → P (cut_all asked_bytes files) → P files
of_alike P files whole holds = whole (subst P (alike files) holds)

certifying_of_cut : (texts : List (List ℕ)) → EndsCertifying (map cut texts) → EndsCertifying texts
certifying_of_cut texts is = record { program = is.program; passes = passes_of_cut texts is.program is.passes; long = is.long }

stops_of_cut : (asked : Command) (files : List (List ℕ)) (end : Status) → Stops asked (cut_all (first_bytes asked) files) end → Stops asked files end
stops_of_cut asked files end (by_size recheck much is) = by_size recheck (of_named HasLargeCertificate asked command.Recheck files recheck (large_of_cut files) much) is
stops_of_cut asked files end (by_texts none stop) =
    by_texts (none_large_of_cut asked files none)
    (texts_stop_of_cut (stage_of asked) (texts_among asked files) end (subst (λ (ts : List (List ℕ)). StopsTexts (stage_of asked) ts end) (among_cut asked files) stop))
stops_of_cut asked files end (by_policy policy stop) =
    by_policy policy (of_named (λ (fs : List (List ℕ)). StopsByPolicy fs end) asked command.Policy files policy (of_alike (λ (fs : List (List ℕ)). StopsByPolicy fs end) files (policy_stop_of_cut files end)) stop)
stops_of_cut asked files end (by_length certify is named) = by_length certify (of_named EndsCertifying asked command.Certify files certify (of_alike EndsCertifying files (certifying_of_cut files)) is) named
stops_of_cut asked files end (by_certificate recheck stop) = by_certificate recheck (of_named (λ (fs : List (List ℕ)). StopsByCertificate fs end) asked command.Recheck files recheck (disproof_of_cut files end) stop)

tree_of_cuts : (texts : List (List ℕ)) (tree : List ItemTree) → HaveTrees 1 (map cut texts) (tree ∷ []) → HaveTrees 1 texts (tree ∷ [])
tree_of_cuts texts tree have = trees_of_cut 1 texts (tree ∷ []) have

-- ---- texts that came say the same as those of the call

-- the texts that came are what is read of these, or these
abbrev pub IsTextOf : Command → List (List ℕ) → List (List ℕ) → Type 0
IsTextOf asked read texts = (read ≡ cut_all (first_bytes asked) texts) ⊎ (read ≡ texts)

-- what holds of the texts that came holds of the call's, where it does so of what is read of them
by_read : (P : List (List ℕ) → Type 0) (asked : Command) (read texts : List (List ℕ)) → (P (cut_all (first_bytes asked) texts) → P texts) → IsTextOf asked read texts → P read → P texts
by_read P asked read texts whole (inl cuts) holds = whole (subst P cuts holds)
by_read P asked read texts whole (inr same) holds = subst P same holds

-- .. under a command without certificate
by_alike : (P : List (List ℕ) → Type 0) (asked : Command) (read texts : List (List ℕ)) → first_bytes asked ≡ asked_bytes → (P (map cut texts) → P texts) → IsTextOf asked read texts → P read → P texts
by_alike P asked read texts same whole = by_read P asked read texts (λ holds. of_alike P texts whole (subst (λ (n : ℕ). P (cut_all n texts)) same holds))

-- commands that ask for as much of each file
pub same_bytes : (asked named : Command) → asked ≡ named → first_bytes named ≡ asked_bytes → first_bytes asked ≡ asked_bytes
same_bytes asked named is same = ap first_bytes is ∙ same

pub run_bytes : (asked : Command) (way : Mode) → asked ≡ running way → first_bytes asked ≡ asked_bytes
run_bytes asked mode.Silent is = ap first_bytes is
run_bytes asked mode.Traced is = ap first_bytes is
run_bytes asked mode.Observed is = ap first_bytes is
run_bytes asked (mode.Summed number) is = ap first_bytes is

pub passes_read : (asked : Command) (read texts : List (List ℕ)) (program : Program) → first_bytes asked ≡ asked_bytes → IsTextOf asked read texts → Passes read program → Passes texts program
passes_read asked read texts program same = by_alike (λ (ts : List (List ℕ)). Passes ts program) asked read texts same (passes_of_cut texts program)

pub runnable_read : (asked : Command) (read texts : List (List ℕ)) (program : Program) → first_bytes asked ≡ asked_bytes → IsTextOf asked read texts → Runnable read program → Runnable texts program
runnable_read asked read texts program same = by_alike (λ (ts : List (List ℕ)). Runnable ts program) asked read texts same (runnable_of_cut texts program)

pub tree_read : (asked : Command) (read texts : List (List ℕ)) (tree : List ItemTree) → first_bytes asked ≡ asked_bytes → IsTextOf asked read texts → HaveTrees 1 read (tree ∷ []) → HaveTrees 1 texts (tree ∷ [])
tree_read asked read texts tree same = by_alike (λ (ts : List (List ℕ)). HaveTrees 1 ts (tree ∷ [])) asked read texts same (tree_of_cuts texts tree)

pub keeps_read : (asked : Command) (read files : List (List ℕ)) → first_bytes asked ≡ asked_bytes → IsTextOf asked read files → KeepsToPolicy read → KeepsToPolicy files
keeps_read asked read files same = by_alike (λ (ts : List (List ℕ)). KeepsToPolicy ts) asked read files same (keeps_of_cut files)

pub proves_read : (asked : Command) (read files : List (List ℕ)) (program : Program) → asked ≡ command.Recheck → IsTextOf asked read files → ProvesTexts read program → ProvesTexts files program
proves_read asked read files program is =
    by_read (λ (ts : List (List ℕ)). ProvesTexts ts program) asked read files (of_named (λ (ts : List (List ℕ)). ProvesTexts ts program) asked command.Recheck files is (proof_of_cut files program))

pub stops_read : (asked : Command) (read texts : List (List ℕ)) (end : Status) → IsTextOf asked read texts → Stops asked read end → Stops asked texts end
stops_read asked read texts end = by_read (λ (ts : List (List ℕ)). Stops asked ts end) asked read texts (stops_of_cut asked texts end)
