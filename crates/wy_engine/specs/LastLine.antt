-- The last line of a call, by its status.
use Rattle.std.specs.Prelude.{codes, ℕ, ◌-◌, List, [], ◌++◌, Option, Some, None, slice_get, unwrap_or}
use Rattle.std.specs.Fmt.{decimal}
use Rattle.wy_text.specs.LimitName.{limit_number, limit_text}
use Rattle.wy_text.specs.RuleName.{rule_text}
use Rattle.wy_text.specs.declared.fault.AtomName.{AtomName}
use Rattle.wy_text.specs.declared.fault.Fault.{Fault}
use Rattle.wy_text.specs.declared.fault.Place.{Place}
use Rattle.wy_text.specs.declared.limit.LimitName.{LimitName}
use Rattle.wy_device.specs.RunEnds.{RunEnd, Trap, TooDeep, Spent, DeviceFailed}
use Rattle.wy_meaning.specs.EndLines.{end_line}
use Rattle.wy_authority.specs.Report.{atom_text}
use Rattle.wy_machine.specs.TrapKinds.{trap_meant}
use Rattle.wy_proving.specs.declared.proof.CertTest.{CertTest}
use Rattle.wy_proving.specs.declared.proof.CertTest.TheVariants as test
use Rattle.wy_settings.specs.Settings.{Settings, texts_among, usual_steps, usual_depth}
use Rattle.wy_engine.specs.declared.status.Status.{Status}
use Rattle.wy_engine.specs.declared.status.Status.TheVariants as status
use Rattle.wy_engine.specs.declared.status.SyntaxKind.{SyntaxKind}
use Rattle.wy_engine.specs.declared.status.SyntaxKind.TheVariants as syntax

-- the file word of a number, which counts from 1
abbrev pub file_word : List (List ℕ) → ℕ → List ℕ
file_word names file = unwrap_or (slice_get names (file - 1)) []

-- a place, as `hello.wy:3:3`
abbrev pub place_text : List (List ℕ) → Place → List ℕ
place_text names place = file_word names place.file ++ (codes ":" ++ (decimal place.line ++ (codes ":" ++ decimal place.column)))

abbrev pub lacks_text : Option AtomName → List ℕ
lacks_text None = []
lacks_text (Some atom) = codes " lacks " ++ atom_text atom

abbrev pub fault_text : Fault → List ℕ
fault_text fault = rule_text fault.rule ++ (codes " premise " ++ (decimal fault.premise ++ lacks_text fault.atom))

-- what is wrong in a text that has no tokens or no tree
abbrev pub syntax_text : SyntaxKind → List ℕ
syntax_text syntax.NotUtf8 = codes "NotUtf8"
syntax_text syntax.TabIndent = codes "TabIndent"
syntax_text syntax.BadDedent = codes "BadDedent"
syntax_text syntax.BadCharacter = codes "BadCharacter"
syntax_text syntax.OpenText = codes "OpenText"
syntax_text syntax.BadEscape = codes "BadEscape"
syntax_text syntax.NumberTooLarge = codes "NumberTooLarge"
syntax_text syntax.Unexpected = codes "Unexpected"

-- a limit and its number
abbrev pub limit_line : LimitName → List ℕ
limit_line name = codes "limit: " ++ (limit_text name ++ (codes " " ++ (decimal (limit_number name) ++ codes "\n")))

abbrev pub usage_line : List ℕ
usage_line = codes "usage: wyvern COMMAND [--steps N] [--depth N] [--folder GRANT=PATH]... FILE...\n"

-- a test of a certificate
abbrev pub test_text : CertTest → List ℕ
test_text test.Scopes = codes "C-Scopes"
test_text test.Types = codes "C-Types"
test_text test.Pairs = codes "C-Pairs"
test_text test.Plain = codes "C-Plain"
test_text test.Lines = codes "C-Lines"
test_text test.Nodes = codes "C-Nodes"

-- what a certificate, which is the first file, does not prove, as `c: unproved 1 C-Nodes 3`
abbrev pub scope_text : List (List ℕ) → ℕ → List ℕ
scope_text names scope = file_word names 1 ++ (codes ": unproved " ++ decimal scope)

abbrev pub unproved_line : List (List ℕ) → ℕ → CertTest → ℕ → List ℕ
unproved_line names scope test index = scope_text names scope ++ (codes " " ++ (test_text test ++ (codes " " ++ (decimal index ++ codes "\n"))))

-- a line of a policy, which is the first file, as `plugins.pol:3`
abbrev pub row_text : List (List ℕ) → ℕ → List ℕ
row_text names line = file_word names 1 ++ (codes ":" ++ decimal line)

-- what a row denies: an instance, and what it may not do
abbrev pub denial_line : List (List ℕ) → ℕ → List ℕ → AtomName → List ℕ
denial_line names line instance atom = row_text names line ++ (codes ": denied: " ++ (instance ++ (codes " " ++ (atom_text atom ++ codes "\n"))))

-- what the last line of a call needs of its words: the file words, those of the texts among them, and the bounds of a run
pub record LineWords : Type 0 where
  pub names : List (List ℕ)
  pub texts : List (List ℕ)
  pub steps : ℕ
  pub depth : ℕ

-- .. where the words give no settings there are no files
abbrev pub line_words : Option Settings → LineWords
line_words None = record { names = []; texts = []; steps = usual_steps; depth = usual_depth }
line_words (Some settings) = record { names = settings.files; texts = texts_among settings.command settings.files; steps = settings.steps; depth = settings.depth }

-- the last line of a run that ended so
abbrev pub run_line : LineWords → RunEnd → List ℕ
run_line words end = end_line (file_word words.texts) words.depth words.steps end

-- the last line of a call with these words
abbrev pub last_line : LineWords → Status → List ℕ
last_line words status.Ended = []
last_line words status.Usage = usage_line
last_line words (status.Unread file) = file_word words.names file ++ codes ": unread\n"
last_line words (status.Syntax place kind) = place_text words.texts place ++ (codes ": syntax: " ++ (syntax_text kind ++ codes "\n"))
last_line words (status.Refused fault) = place_text words.texts fault.place ++ (codes ": refused: " ++ (fault_text fault ++ codes "\n"))
last_line words (status.Limit name) = limit_line name
last_line words (status.Trap kind place) = run_line words (Trap (trap_meant kind) place)
last_line words status.TooDeep = run_line words TooDeep
last_line words status.Spent = run_line words Spent
last_line words (status.DeviceFailed grant op) = run_line words (DeviceFailed grant op)
last_line words status.Unwritten = codes "unwritten\n"
last_line words status.Memory = codes "no memory\n"
last_line words (status.BadCert at) = file_word words.names 1 ++ (codes ": bad certificate at " ++ (decimal at ++ codes "\n"))
last_line words (status.Unproved scope test index) = unproved_line words.names scope test index
last_line words (status.Denied line instance atom) = denial_line words.names line instance atom
last_line words (status.BadPolicy line) = row_text words.names line ++ codes ": bad policy\n"
