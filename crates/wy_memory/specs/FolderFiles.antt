-- The files of a folder in memory: for each grant a map from names to texts.
use Rattle.std.specs.Prelude.{◌≡◌, ◌↔◌, ℕ, List, [], Bool, ◌&&◌, Option, Some, None, IsSome, unwrap_or, Contains, find, bytes_eq}
use Rattle.std.specs.Cmp.Lexicographic.{slice_cmp}
use Rattle.std.specs.List.Sorted.{IsStrictlySortedBy}
use Rattle.std.specs.Option.{option_map}
use Rattle.std.specs.Ordering.{nat_cmp}
use Rattle.wy_device.specs.Requests.{in_lines}
use Rattle.wy_memory.specs.declared.folder_files.FolderFile.{FolderFile}

-- whether a file is the one of a name in a grant's folder
abbrev pub is_file : List ℕ → List ℕ → FolderFile → Bool
is_file grant name file = bytes_eq file.grant grant && bytes_eq file.name name

-- the text of a name in a grant's folder; of two files of one grant and name the first counts
abbrev pub text_in : List FolderFile → List ℕ → List ℕ → Option (List ℕ)
text_in files grant name = option_map (λ f. f.text) (find (is_file grant name) files)

-- that text, and the empty text where the name is not there
abbrev pub text_or_empty : List FolderFile → List ℕ → List ℕ → List ℕ
text_or_empty files grant name = unwrap_or (text_in files grant name) []

-- the name has this text in the grant's folder now, and every other name, and every other grant's, has what it had
pub record Puts (old : List FolderFile) (grant name text : List ℕ) (new : List FolderFile) : Type 0 where
  pub there : text_in new grant name ≡ Some text
  pub others : (g n : List ℕ) → ((g ≡ grant) × (n ≡ name) → ⊥) → text_in new g n ≡ text_in old g n

-- the name is not there in the grant's folder now, and every other name, and every other grant's, has what it had
pub record Removes (old : List FolderFile) (grant name : List ℕ) (new : List FolderFile) : Type 0 where
  pub gone : text_in new grant name ≡ None
  pub others : (g n : List ℕ) → ((g ≡ grant) × (n ≡ name) → ⊥) → text_in new g n ≡ text_in old g n

-- the names in a grant's folder, each once, in byte order
pub record AreNames (files : List FolderFile) (grant : List ℕ) (names : List (List ℕ)) : Type 0 where
  pub ascending : IsStrictlySortedBy (slice_cmp nat_cmp) names
  pub same : (name : List ℕ) → Contains names name ↔ IsSome (text_in files grant name)

-- a text that lists the names in a grant's folder
abbrev pub Lists : List FolderFile → List ℕ → List ℕ → Type 0
Lists files grant text = (names : List (List ℕ)) × AreNames files grant names × (text ≡ in_lines names)
