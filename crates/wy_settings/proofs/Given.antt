-- The settings of words, by the steps in which they are read.
use Rattle.std.proofs.Common.{codes, ◌≡◌, ◌≢◌, ◌∙◌, List, ℕ, Bool, true, false, Option, Some, None, [], ◌∷◌, ap, refl, sym, map, string_bytes, String, Global}
use Rattle.std.specs.Option.{option_and_then}
use Rattle.clap.specs.Faults.{fault_of}
use Rattle.clap.specs.Kinds.{Kinds}
use Rattle.clap.specs.Simple.{matches_of}
use Rattle.clap.specs.Walk.{Row}
use Rattle.wy_settings.specs.Folders.{GivenFolder}
use Rattle.wy_settings.specs.Settings.{Heading, Settings, folders_in, heading_in, settings_by, settings_in, settings_of, settings_with, takes, words_in, words_of_call}

none_by : (faults : Kinds) (rows : List Row) → faults ≢ [] → settings_by faults rows ≡ None
none_by [] rows some = absurd (some refl)
none_by (fault ∷ faults) rows some = refl

pub none_of_faults : (words : List (List ℕ)) → fault_of words_of_call words ≢ [] → settings_of words ≡ None
none_of_faults words some = none_by (fault_of words_of_call words) (matches_of words_of_call words) some

pub read_from : (words : List (List ℕ)) (rows : List Row) → fault_of words_of_call words ≡ [] → rows ≡ matches_of words_of_call words → settings_of words ≡ settings_in rows
read_from words rows none same = ap (λ (faults : Kinds). settings_by faults (matches_of words_of_call words)) none ∙ ap settings_in (sym same)

-- the settings of files that the command takes, or does not take
abbrev fitting : Bool → Heading → List GivenFolder → List (List ℕ) → Option Settings
fitting true heading folders files =
    Some (record { command = heading.command; steps = heading.steps; depth = heading.depth; folders = folders; files = files })
fitting false heading folders files = None

with_files : (heading : Heading) (folders : List GivenFolder) (files : List (List ℕ)) (fits : Bool) → takes heading.command files ≡ fits
    → settings_with folders files heading ≡ fitting fits heading folders files
with_files heading folders files true is = rw is refl
with_files heading folders files false is = rw is refl

-- the settings of a heading, by the folders that are given
abbrev headed_with : List (List ℕ) → Heading → Option (List GivenFolder) → Option Settings
headed_with files heading found = option_and_then (λ folders. settings_with folders files heading) found

pub headed : (rows : List Row) (heading : Heading) (folders : List GivenFolder) (files : List (String Global)) (fits : Bool) → heading_in rows ≡ Some heading
    → Some folders ≡ folders_in rows → map string_bytes files ≡ words_in (codes "file") rows → takes heading.command (map string_bytes files) ≡ fits
    → settings_in rows ≡ fitting fits heading folders (map string_bytes files)
headed rows heading folders files fits found given same is =
    ap (option_and_then (λ heading. headed_with (words_in (codes "file") rows) heading (folders_in rows))) found
    ∙ ap (headed_with (words_in (codes "file") rows) heading) (sym given)
    ∙ ap (λ (all : List (List ℕ)). settings_with folders all heading) (sym same)
    ∙ with_files heading folders (map string_bytes files) fits is

-- no settings, if a word gives no folder
pub folderless : (rows : List Row) (heading : Heading) → heading_in rows ≡ Some heading → None ≡ folders_in rows → settings_in rows ≡ None
folderless rows heading found none =
    ap (option_and_then (λ heading. headed_with (words_in (codes "file") rows) heading (folders_in rows))) found
    ∙ ap (headed_with (words_in (codes "file") rows) heading) (sym none)
