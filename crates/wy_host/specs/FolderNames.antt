-- What a folder of the machine lists, whatever is in it.
use Rattle.std.specs.Prelude.{◌≡◌, ◌++◌, ◌∷◌, ℕ, List, false, true, All, string_bytes}
use Rattle.std.specs.BTreeSet.{BTreeSet, IsOrdered}
use Rattle.std.specs.Cmp.Lexicographic.{slice_cmp}
use Rattle.std.specs.List.Sorted.{IsStrictlySortedBy}
use Rattle.std.specs.Ordering.{nat_cmp}
use Rattle.std.specs.String.{string_cmp}
use Rattle.std.specs.declared.string.String.{String}
use Rattle.wy_device.specs.Requests.{in_lines, is_file_name}

-- a set of names of files
pub record HoldsFileNames {A : Type 0} (names : BTreeSet (String A)) : Type 0 where
  pub ascending : IsOrdered string_cmp names
  pub named : All (λ name. is_file_name (string_bytes name) ≡ true) names.keys

-- the text has names of files, each once, in byte order and followed by a newline
pub record ListsFileNames (text : List ℕ) : Type 0 where
  pub names : List (List ℕ)
  pub ascending : IsStrictlySortedBy (slice_cmp nat_cmp) names
  pub named : All (λ name. is_file_name name ≡ true) names
  pub lines : text ≡ in_lines names

-- the path leads to something in the folder whose name is no file name
pub record IsUnlistedIn (folder path : List ℕ) : Type 0 where
  pub name : List ℕ
  pub within : path ≡ folder ++ 47 ∷ name
  pub unlisted : is_file_name name ≡ false
