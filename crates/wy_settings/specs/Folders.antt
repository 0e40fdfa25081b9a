-- The folders that words give for grants, each as GRANT=PATH. (docs/LANGUAGE.md, "The command line")
use Rattle.std.specs.Prelude.{ℕ, ◌==◌, nat_lt, ◌&&◌, List, [], ◌∷◌, ◌++◌, Option, Some, None, Bool, bytes_eq, if◌then◌else◌, length, string_bytes}
use Rattle.std.specs.List.{after_first, before_first, list_any}
use Rattle.std.specs.Option.{option_and_then}
use Rattle.wy_layout.specs.Identifiers.{is_identifier}
use Rattle.wy_settings.specs.declared.command_line.GivenFolder as own

-- the path of the folder that is given for the grant of a name
pub record GivenFolder : Type 0 where
  pub grant : List ℕ
  pub path : List ℕ

-- .. as the program keeps it
abbrev pub given_folder : own.GivenFolder → GivenFolder
given_folder f = record { grant = string_bytes f.grant; path = string_bytes f.path }

-- an equals sign
abbrev pub is_equals : ℕ → Bool
is_equals byte = byte == 61

-- the folder of a grant and a path, if one is a name and the other is not empty
abbrev pub folder_with : List ℕ → List ℕ → Option GivenFolder
folder_with grant path =
    if nat_lt 0 (length path) && is_identifier grant then Some (record { grant = grant; path = path }) else None

-- the folder that a word gives: the grant is what comes before the first equals sign, and the path what comes after it
abbrev pub folder_in : List ℕ → Option GivenFolder
folder_in word = folder_with (before_first is_equals word) (after_first is_equals word)

-- a folder is for this grant
abbrev pub is_for : List ℕ → GivenFolder → Bool
is_for grant folder = bytes_eq folder.grant grant

-- .. and one of these is
abbrev pub is_given : List GivenFolder → List ℕ → Bool
is_given folders grant = list_any (is_for grant) folders

-- the folders that words give after these, each for a grant that has none yet
abbrev pub folders_after : List GivenFolder → List (List ℕ) → Option (List GivenFolder)
folders_after folders [] = Some folders
folders_after folders (word ∷ words) =
    option_and_then (λ f. if is_given folders f.grant then None else folders_after (folders ++ f ∷ []) words) (folder_in word)
