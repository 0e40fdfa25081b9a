-- The names of a set of texts as lists of bytes.
use Rattle.std.proofs.Common.{◌≡◌, ℕ, List, [], ◌∷◌, true, map, String}
use Rattle.std.specs.Prelude.{string_bytes}
use Rattle.std.specs.BTreeSet.{BTreeSet}
use Rattle.std.specs.Cmp.Lexicographic.{slice_cmp}
use Rattle.std.specs.declared.cmp.Ordering.TheVariants.{Less}
use Rattle.std.specs.List.{AllByRecursion}
use Rattle.std.specs.List.Sorted.{IsStrictlySortedBy}
use Rattle.std.specs.Ordering.{nat_cmp}
use Rattle.std.specs.String.{string_cmp}
use Rattle.std.proofs.lemmas.List.Elements.{All-map}
use Rattle.wy_device.specs.Requests.{in_lines, is_file_name}
use Rattle.wy_host.specs.FolderNames.{HoldsFileNames, ListsFileNames}

below-map : {A : Type 0} (x : List ℕ) (names : List (String A)) → AllByRecursion (λ y. slice_cmp nat_cmp x (string_bytes y) ≡ Less) names
    → AllByRecursion (λ y. slice_cmp nat_cmp x y ≡ Less) (map string_bytes names)
below-map x [] h = tt
below-map x (k ∷ names) h = (h.0, below-map x names h.1)

ascending-map : {A : Type 0} (names : List (String A)) → IsStrictlySortedBy string_cmp names
    → IsStrictlySortedBy (slice_cmp nat_cmp) (map string_bytes names)
unfolding IsStrictlySortedBy
ascending-map [] h = tt
ascending-map (k ∷ names) h = (below-map (string_bytes k) names h.0, ascending-map names h.1)

pub lists_file_names : {A : Type 0} (names : BTreeSet (String A)) (text : List ℕ) → HoldsFileNames names
    → text ≡ in_lines (map string_bytes names.keys) → ListsFileNames text
lists_file_names names text held lines = record {
  names = map string_bytes names.keys;
  ascending = ascending-map names.keys held.ascending;
  named = All-map (λ name. is_file_name name ≡ true) string_bytes names.keys held.named;
  lines = lines;
}
