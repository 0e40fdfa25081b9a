-- Which texts are accepted and which are refused, what an accepted program means, and its authority. All that the
-- promises of the top call say of programs, they say by the words of this page.
use Rattle.std.specs.Prelude.{codes, ◌≡◌, ◌⊎◌, List, [], ◌∷◌, ℕ, Some, None, ⊤, ◌+◌, length}
use Rattle.wy_text.specs.declared.limit.LimitName.{LimitName}
use Rattle.wy_text.specs.declared.limit.LimitName.TheVariants as limit
use Rattle.wy_device.specs.declared.deed.Event.{Event}
use Rattle.wy_syntax.specs.Trees.{ItemTree}
use Rattle.wy_types.specs.Program.{Program}
use Rattle.wy_rules.specs.Ends.{End, IsEnd, limited, refused}
use Rattle.wy_authority.specs.Authority.{authority_of}
use Rattle.wy_authority.specs.Report.{named_atoms, report_text}
use Rattle.wy_authority.specs.declared.rows.Authority.{Authority}
use Rattle.wy_authority.specs.declared.rows.BodyRow.{BodyRow}
use Rattle.wy_authority.specs.declared.rows.InstanceRow.{InstanceRow}
use Rattle.wy_text.specs.Members.{In}
use Rattle.wy_lower.specs.Counts.{lowering_limit}
use Rattle.wy_sound.specs.Programs.{allowed, program_starts}
use Rattle.wy_sound.specs.Telling.{call_of}
use Rattle.wy_engine.specs.FileTrees.{FirstNoTree, HaveTrees}
use Rattle.wy_engine.specs.Certificates.{HasLargeCertificate, HasNoLargeCertificate, ProvesTexts, StopsByCertificate}
use Rattle.wy_engine.specs.Certifying.{EndsCertifying, HasCertificate}
use Rattle.wy_engine.specs.NameFaults.{NamesStop, ResolveTo}
use Rattle.wy_engine.specs.Passing.{Passes}
use Rattle.wy_sample.specs.Sample.{summary_line}
use Rattle.wy_policy.specs.Allowed.{Allowed, Denied}
use Rattle.wy_policy.specs.Policy.{IsPolicy, IsRefused}
use Rattle.wy_policy.specs.Used.{used_sets, used_text}
use Rattle.wy_policy.specs.declared.policy.PolicyRefusal.TheVariants as refusal
use Rattle.wy_policy.specs.declared.policy.PolicyRow.{PolicyRow}
use Rattle.wy_settings.specs.Settings.{sample_number, texts_among}
use Rattle.wy_settings.specs.declared.command_line.Command.{Command}
use Rattle.wy_settings.specs.declared.command_line.Command.TheVariants as command
use Rattle.wy_engine.specs.declared.running.Mode.{Mode}
use Rattle.wy_engine.specs.declared.running.Mode.TheVariants as mode
use Rattle.wy_engine.specs.declared.status.Status.{Status}
use Rattle.wy_engine.specs.declared.status.Status.TheVariants as status

-- the texts are those of a program that is not accepted, and why
pub record EndsJudging (texts : List (List ℕ)) (end : End) : Type 0 where
  pub program : Program
  pub read : ResolveTo texts program
  pub ends : IsEnd program end

-- .. of an accepted one whose code passes a limit
pub record EndsLowering (texts : List (List ℕ)) (name : LimitName) : Type 0 where
  pub program : Program
  pub passes : Passes texts program
  pub passed : lowering_limit program (program_starts program) ≡ Some name

-- .. and of one that can run
pub record Runnable (texts : List (List ℕ)) (program : Program) : Type 0 where
  pub passes : Passes texts program
  pub within : lowering_limit program (program_starts program) ≡ None

-- what is written where texts are accepted
abbrev pub accepted_text : List ℕ
accepted_text = codes "accepted\n"

-- what the calls of a body may do is what the report's line of the body says, and no more
abbrev pub IsReported : Program → Type 0
IsReported program =
    (r : InstanceRow) → In r (authority_of program).rows → (b : BodyRow) → In b r.bodies → allowed program (call_of r b) ≡ named_atoms (authority_of program).atoms b.set

-- the report of what a program's bodies may do
abbrev pub authority_text : Program → List ℕ
authority_text program = report_text (authority_of program)

-- how many lines of bodies these rows of a report have
abbrev pub body_lines : List InstanceRow → ℕ
body_lines [] = 0
body_lines (row ∷ rows) = length row.bodies + body_lines rows

-- the line that sums the run of a sample up
abbrev pub summary_text : ℕ → Program → List ℕ
summary_text number program = summary_line number (body_lines (authority_of program).rows)

-- the lines of what was used of each instance of a program in these events
abbrev pub observed_text : Program → List Event → List ℕ
observed_text program events = used_text (authority_of program) (used_sets (authority_of program) events)

-- ---- what a policy says of a program

-- what is written where a program keeps to its policy
abbrev pub allowed_text : List ℕ
allowed_text = codes "allowed\n"

-- The status that bytes give which a program of this authority is to keep to: they pass a limit; or else a line of them is
-- no policy's; or else they are a policy that denies an instance what it may do.
abbrev pub Refuses : List ℕ → Authority → Status → Type 0
Refuses bytes a (status.Limit name) = IsRefused bytes (refusal.Limit name)
Refuses bytes a (status.BadPolicy line) = IsRefused bytes (refusal.BadPolicy line)
Refuses bytes a (status.Denied line instance atom) = (rows : List PolicyRow) × IsPolicy bytes rows × Denied rows a line instance atom
Refuses bytes a other = ⊥

-- the first of these files is there for a policy, and the others are texts that pass
pub record UnderPolicy (files : List (List ℕ)) : Type 0 where
  pub policy : List ℕ
  pub texts : List (List ℕ)
  pub split : files ≡ policy ∷ texts
  pub program : Program
  pub passes : Passes texts program

-- .. and this is the status that the first gives
pub record StopsByPolicy (files : List (List ℕ)) (end : Status) : Type 0 where
  pub under : UnderPolicy files
  pub refuses : Refuses under.policy (authority_of under.program) end

-- .. and the program keeps to the policy that the first is
pub record KeepsToPolicy (files : List (List ℕ)) : Type 0 where
  pub under : UnderPolicy files
  pub rows : List PolicyRow
  pub is : IsPolicy under.policy rows
  pub allowed : Allowed rows (authority_of under.program)

-- ---- what a command does with texts

-- a command that runs programs
abbrev pub RunsPrograms : Command → Type 0
RunsPrograms command.Check = ⊥
RunsPrograms command.Authority = ⊥
RunsPrograms command.Run = ⊤
RunsPrograms command.Trace = ⊤
RunsPrograms command.Sample = ⊤
RunsPrograms command.Format = ⊥
RunsPrograms command.Policy = ⊥
RunsPrograms command.Observe = ⊤
RunsPrograms command.Certify = ⊥
RunsPrograms command.Recheck = ⊥

-- the command that runs programs in this way
abbrev pub running : Mode → Command
running mode.Silent = command.Run
running mode.Traced = command.Trace
running (mode.Summed number) = command.Sample
running mode.Observed = command.Observe

-- the number of a sample is its file word's
abbrev pub IsNumbered : Mode → List (List ℕ) → Type 0
IsNumbered (mode.Summed number) names = sample_number names ≡ Some number
IsNumbered way names = ⊤

-- How far a command goes with texts before anything is run or written to `out`: to their trees, to what their names stand for, to
-- whether their program is accepted, or to its code.
pub data Stage : Type 0 where
  parsing : Stage
  naming : Stage
  judging : Stage
  lowering : Stage

-- what is formatted may have any names, and what is rechecked any types
abbrev pub stage_of : Command → Stage
stage_of command.Check = judging
stage_of command.Authority = judging
stage_of command.Run = lowering
stage_of command.Trace = lowering
stage_of command.Sample = lowering
stage_of command.Format = parsing
stage_of command.Policy = judging
stage_of command.Observe = lowering
stage_of command.Certify = judging
stage_of command.Recheck = naming

-- the texts have trees whose names are refused, and this is the limit
abbrev pub StopsUnnamed : List (List ℕ) → LimitName → Type 0
StopsUnnamed texts name = FirstNoTree 1 texts (status.Limit name) ⊎ NamesStop texts (status.Limit name)

-- .. or whose program is not accepted
abbrev pub StopsLimited : List (List ℕ) → LimitName → Type 0
StopsLimited texts name = StopsUnnamed texts name ⊎ EndsJudging texts (limited name)

-- The status with which texts end a call that goes so far: some file has no tree; or the names are refused; or the program is; or
-- its code passes a limit.
abbrev pub StopsTexts : Stage → List (List ℕ) → Status → Type 0
StopsTexts stage texts (status.Syntax place kind) = FirstNoTree 1 texts (status.Syntax place kind)
StopsTexts parsing texts (status.Limit name) = FirstNoTree 1 texts (status.Limit name)
StopsTexts naming texts (status.Limit name) = StopsUnnamed texts name
StopsTexts judging texts (status.Limit name) = StopsLimited texts name
StopsTexts lowering texts (status.Limit name) = StopsLimited texts name ⊎ EndsLowering texts name
StopsTexts naming texts (status.Refused fault) = NamesStop texts (status.Refused fault)
StopsTexts judging texts (status.Refused fault) = NamesStop texts (status.Refused fault) ⊎ EndsJudging texts (refused fault)
StopsTexts lowering texts (status.Refused fault) = NamesStop texts (status.Refused fault) ⊎ EndsJudging texts (refused fault)
StopsTexts stage texts other = ⊥

-- The status with which the files of a command end a call before anything is run or written to `out`: under `recheck` the first has
-- more bytes than a certificate may have; or it is the one of the texts among them. Where these go far enough, it is under `policy` and
-- under `recheck` the one that the first file gives, and under `certify` that a certificate has too many bytes.
pub data Stops (asked : Command) (files : List (List ℕ)) (end : Status) : Type 0 where
  by_size : asked ≡ command.Recheck → HasLargeCertificate files → end ≡ status.Limit limit.CertificateBytes → Stops asked files end
  by_texts : HasNoLargeCertificate asked files → StopsTexts (stage_of asked) (texts_among asked files) end → Stops asked files end
  by_policy : asked ≡ command.Policy → StopsByPolicy files end → Stops asked files end
  by_length : asked ≡ command.Certify → EndsCertifying files → end ≡ status.Limit limit.CertificateBytes → Stops asked files end
  by_certificate : asked ≡ command.Recheck → StopsByCertificate files end → Stops asked files end

-- a command whose first file is not among its texts
abbrev pub HasFirst : Command → Type 0
HasFirst command.Policy = ⊤
HasFirst command.Recheck = ⊤
HasFirst other = ⊥

-- what a call did: nothing, or it said that texts are accepted, or it reported what a program may do, or it ran a program,
-- or it wrote the canonical form of a file, or it said that a program keeps to its policy, or it wrote a program's certificate, or it
-- said that a certificate proves a program
pub data Did : Type 0 where
  nothing : Did
  checked : Did
  reported : Program → Did
  ran : Program → Did
  formatted : List ItemTree → Did
  permitted : Did
  certified : Program → Did
  proved : Program → Did

-- what a command does with files that do not stop it
abbrev pub Asks : Command → List (List ℕ) → Did → Type 0
Asks command.Check texts checked = (program : Program) × Passes texts program
Asks command.Authority texts (reported program) = Passes texts program
Asks command.Run texts (ran program) = Runnable texts program
Asks command.Trace texts (ran program) = Runnable texts program
Asks command.Sample texts (ran program) = Runnable texts program
Asks command.Observe texts (ran program) = Runnable texts program
Asks command.Format texts (formatted tree) = HaveTrees 1 texts (tree ∷ [])
Asks command.Policy files permitted = KeepsToPolicy files
Asks command.Certify texts (certified program) = HasCertificate texts program
Asks command.Recheck files (proved program) = ProvesTexts files program
Asks command texts other = ⊥
