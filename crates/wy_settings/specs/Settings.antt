-- What the words of a call ask for: they are read as the words of one command of `clap`, and settings are made of the
-- matches. (docs/LANGUAGE.md, "The command line")
use Rattle.std.specs.Prelude.{codes, ℕ, ◌==◌, nat_le, List, [], ◌∷◌, Option, Some, None, Bool, true, map, string_bytes, if◌then◌else◌, bytes_eq, is_some, length, unwrap_or}
use Rattle.std.specs.Option.{option_and_then, option_map}
use Rattle.clap.specs.Faults.{fault_of}
use Rattle.clap.specs.Kinds.{Kinds}
use Rattle.clap.specs.Simple.{App, matches_of, new_rule, new_shape}
use Rattle.clap.specs.Walk.{Row, Rule, all_of, first_of}
use Rattle.clap.specs.declared.builder.action.ArgAction.TheVariants.{Append}
use Rattle.wy_settings.specs.Folders.{GivenFolder, folders_after, given_folder}
use Rattle.wy_settings.specs.Numerals.{number_up_to}
use Rattle.wy_settings.specs.declared.command_line.Command.{Command}
use Rattle.wy_settings.specs.declared.command_line.Command.TheVariants as command
use Rattle.wy_settings.specs.declared.command_line.CommandLine.{CommandLine}
use Rattle.wy_settings.specs.declared.command_line.Settings.{Settings as OwnSettings}

-- A command, how many steps a run may take, how many calls on objects may be open in it at once, the folders that are given for
-- grants, and the file arguments.
pub record Settings : Type 0 where
  pub command : Command
  pub steps : ℕ
  pub depth : ℕ
  pub folders : List GivenFolder
  pub files : List (List ℕ)

-- the settings of a command line
abbrev pub settings_of_line : CommandLine → Settings
settings_of_line line = record {
  command = line.command;
  steps = line.steps;
  depth = line.depth;
  folders = map given_folder line.folders.now;
  files = map string_bytes line.files.now;
}

-- .. and of settings that keep their own words
abbrev pub settings_kept : OwnSettings → Settings
settings_kept s = record {
  command = s.command;
  steps = s.steps;
  depth = s.depth;
  folders = map given_folder s.folders.items;
  files = map string_bytes s.files.items;
}

abbrev pub usual_steps : ℕ
usual_steps = 10000000

abbrev pub most_steps : ℕ
most_steps = 1000000000000

abbrev pub usual_depth : ℕ
usual_depth = 10000

abbrev pub most_depth : ℕ
most_depth = 100000

------------------------------------------------------------
-- The command of `clap`: COMMAND, `--steps N`, `--depth N`, `--folder GRANT=PATH` and FILE; there may be any number of the last two

abbrev pub command_rule : Rule
command_rule = new_rule (codes "command")

abbrev pub option_rule : List ℕ → Rule
option_rule name = record (new_rule name) { long = Some name }

-- an option that may be given any number of times
abbrev pub repeated_rule : List ℕ → Rule
repeated_rule name = record (option_rule name) { action = Some Append }

abbrev pub files_rule : Rule
files_rule = record (new_rule (codes "file")) { action = Some Append }

-- it has no help, no version and no subcommands, and its words do not begin with the program's name
abbrev pub words_of_call : App
words_of_call = record {
  top = record (new_shape (codes "wyvern")) {
    rules =
        command_rule ∷ option_rule (codes "steps") ∷ option_rule (codes "depth") ∷ repeated_rule (codes "folder") ∷
        files_rule ∷ [];
    no_binary_name = true;
    disable_help_flag = true;
    disable_version_flag = true;
  };
  subs = [];
}

------------------------------------------------------------
-- Settings of matches

-- the command that a word names
abbrev pub command_named : List ℕ → Option Command
command_named word =
    if bytes_eq word (codes "check") then Some command.Check else
    (if bytes_eq word (codes "authority") then Some command.Authority else
    (if bytes_eq word (codes "run") then Some command.Run else
    (if bytes_eq word (codes "trace") then Some command.Trace else
    (if bytes_eq word (codes "sample") then Some command.Sample else
    (if bytes_eq word (codes "format") then Some command.Format else
    (if bytes_eq word (codes "policy") then Some command.Policy else
    (if bytes_eq word (codes "observe") then Some command.Observe else
    (if bytes_eq word (codes "certify") then Some command.Certify else (if bytes_eq word (codes "recheck") then Some command.Recheck else None)))))))))

abbrev pub most_sample : ℕ
most_sample = 200

-- the number, where it is not zero
abbrev pub from_one : Option ℕ → Option ℕ
from_one None = None
from_one (Some n) = if nat_le 1 n then Some n else None

-- the number of a sample: the file words are one word that is such a number
abbrev pub sample_number : List (List ℕ) → Option ℕ
sample_number [] = None
sample_number (word ∷ []) = from_one (number_up_to most_sample word)
sample_number (word ∷ other ∷ words) = None

-- whether a command takes these files: `sample` its number, `format` one file, `policy` and `recheck` two or more, and each other
-- one or more
abbrev pub takes : Command → List (List ℕ) → Bool
takes command.Check files = nat_le 1 (length files)
takes command.Authority files = nat_le 1 (length files)
takes command.Run files = nat_le 1 (length files)
takes command.Trace files = nat_le 1 (length files)
takes command.Sample files = is_some (sample_number files)
takes command.Format files = length files == 1
takes command.Policy files = nat_le 2 (length files)
takes command.Observe files = nat_le 1 (length files)
takes command.Certify files = nat_le 1 (length files)
takes command.Recheck files = nat_le 2 (length files)

-- the texts among the files of a command, or their words: all, and for `policy` and `recheck` those behind the first, which is the
-- policy or the certificate
abbrev pub texts_among : {X : Type 0} → Command → List X → List X
texts_among command.Policy (policy ∷ texts) = texts
texts_among command.Recheck (certificate ∷ texts) = texts
texts_among command files = files

-- the number of an option, which is the usual one where the option is not there
abbrev pub bound : ℕ → ℕ → Option (List ℕ) → Option ℕ
bound usual most None = Some usual
bound usual most (Some word) = number_up_to most word

-- a command with its bounds
pub record Heading : Type 0 where
  pub command : Command
  pub steps : ℕ
  pub depth : ℕ

-- .. of the words of the command and of its options
abbrev pub heading_of : Option (List ℕ) → Option (List ℕ) → Option (List ℕ) → Option Heading
heading_of word steps depth =
    option_and_then (λ command. option_and_then (λ steps. option_map (λ depth. record { command = command; steps = steps; depth = depth })
    (bound usual_depth most_depth depth)) (bound usual_steps most_steps steps)) (option_and_then command_named word)

abbrev pub heading_in : List Row → Option Heading
heading_in rows = heading_of (first_of (codes "command") rows) (first_of (codes "steps") rows) (first_of (codes "depth") rows)

-- the words that stand for an argument
abbrev pub words_in : List ℕ → List Row → List (List ℕ)
words_in name rows = unwrap_or (all_of name rows) []

-- the folders that are given, if each of their words gives one and no grant has two
abbrev pub folders_in : List Row → Option (List GivenFolder)
folders_in rows = folders_after [] (words_in (codes "folder") rows)

-- the settings of a heading with these folders and files
abbrev pub settings_with : List GivenFolder → List (List ℕ) → Heading → Option Settings
settings_with folders files heading =
    if takes heading.command files then
    Some (record { command = heading.command; steps = heading.steps; depth = heading.depth; folders = folders; files = files }) else None

-- the settings that these matches give
abbrev pub settings_in : List Row → Option Settings
settings_in rows =
    option_and_then (λ heading. option_and_then (λ folders. settings_with folders (words_in (codes "file") rows) heading) (folders_in rows))
    (heading_in rows)

-- .. and none where `clap` finds a fault in the words
abbrev pub settings_by : Kinds → List Row → Option Settings
settings_by [] rows = settings_in rows
settings_by (fault ∷ faults) rows = None

-- the settings that words give
abbrev pub settings_of : List (List ℕ) → Option Settings
settings_of words = settings_by (fault_of words_of_call words) (matches_of words_of_call words)
