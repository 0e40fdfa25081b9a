-- The names in a grant's folder, by a set of names that are lent.
use Rattle.std.proofs.Common.{◌≡◌, ◌<◌, ℕ, zero, suc, ◌+◌, Bool, true, false, List, [], ◌∷◌, ◌||◌, ◌&&◌, take, map, length, get_or, refl, sym, ◌∙◌, ap, arith}
use Rattle.std.specs.Prelude.{Contains, bytes_eq, is_some, cond, Some, find}
use Rattle.std.specs.Borrow.{Bor}
use Rattle.std.specs.Cmp.Lexicographic.{slice_cmp}
use Rattle.std.specs.declared.cmp.Ordering.TheVariants.{Less}
use Rattle.std.specs.List.{list_any, AllByRecursion}
use Rattle.std.specs.List.Sorted.{IsStrictlySortedBy}
use Rattle.std.specs.Option.{option_map}
use Rattle.std.specs.Ordering.{is_eq, nat_cmp}
use Rattle.std.proofs.Math.Bool.{or-true, or-false}
use Rattle.std.proofs.lemmas.List.Folds.{list_any_more}
use Rattle.std.proofs.lemmas.Map.Text.{is_eq-slice_cmp}
use Rattle.std.proofs.lemmas.Slice.Eq.{bytes_eq-Decides}
use Rattle.wy_memory.specs.declared.folder_files.FolderFile.{FolderFile}
use Rattle.wy_memory.specs.FolderFiles.{is_file, text_in, AreNames}

-- whether a name is among some that are lent
abbrev pub has_name : List ℕ → List (Bor (List ℕ)) → Bool
has_name name names = list_any (λ k. is_eq (slice_cmp nat_cmp name k.now)) names

-- a name has a text exactly where a file is the one of that name
is_some-text_in : (files : List FolderFile) (grant name : List ℕ) → is_some (text_in files grant name) ≡ list_any (is_file grant name) files
is_some-text_in [] grant name = refl
is_some-text_in (f ∷ files) grant name =
    elim (is_file grant name f) as (λ b. is_some (option_map (λ f. f.text) (cond b (Some f) (find (is_file grant name) files)))
    ≡ (b || list_any (is_file grant name) files)) [
      | true ↦ refl
      | false ↦ is_some-text_in files grant name
    ]

Contains-from_any : (name : List ℕ) (names : List (List ℕ)) → list_any (bytes_eq name) names ≡ true → Contains names name
Contains-from_any name [] e = absurd (cc)
Contains-from_any name (n ∷ names) e =
    elim (bytes_eq name n) as (λ b. bytes_eq name n ≡ b → (b || list_any (bytes_eq name) names) ≡ true → Contains (n ∷ names) name) [
      | true ↦ λ here _. (0, omega arith, sym ((bytes_eq-Decides name n).0 here))
      | false ↦ λ _ later. let rest = Contains-from_any name names later in (suc rest.0, omega arith, rest.2)
    ] refl e

any-Contains : (name : List ℕ) (names : List (List ℕ)) (k : ℕ) → k < length names → get_or names k name ≡ name → list_any (bytes_eq name) names ≡ true
any-Contains name [] k within e = absurd (omega arith)
any-Contains name (n ∷ names) zero within e = rw ((bytes_eq-Decides name n).1 (sym e)) refl
any-Contains name (n ∷ names) (suc k) within e = rw (any-Contains name names k (omega arith) e) (or-true (bytes_eq name n))

has_name-map : (name : List ℕ) (names : List (Bor (List ℕ))) → has_name name names ≡ list_any (bytes_eq name) (map (λ k. k.now) names)
has_name-map name [] = refl
has_name-map name (k ∷ names) = rw (is_eq-slice_cmp name k.now) (ap (λ b. bytes_eq name k.now || b) (has_name-map name names))

below-map : (x : List ℕ) (names : List (Bor (List ℕ))) → AllByRecursion (λ y. slice_cmp nat_cmp x y.now ≡ Less) names
    → AllByRecursion (λ y. slice_cmp nat_cmp x y ≡ Less) (map (λ k. k.now) names)
below-map x [] h = tt
below-map x (k ∷ names) h = (h.0, below-map x names h.1)

ascending-map : (names : List (Bor (List ℕ))) → IsStrictlySortedBy (λ x y. slice_cmp nat_cmp x.now y.now) names
    → IsStrictlySortedBy (slice_cmp nat_cmp) (map (λ k. k.now) names)
unfolding IsStrictlySortedBy
ascending-map [] h = tt
ascending-map (k ∷ names) h = (below-map k.now names h.0, ascending-map names h.1)

added : (b c : Bool) → cond b true c ≡ (c || b)
added true c = sym (or-true c)
added false c = sym (or-false c)

-- one more file of the grant, whose name went into the set
pub named-more : (files : List FolderFile) (grant : List ℕ) (i : ℕ) (file : FolderFile) (lent : List ℕ) (old new : List (Bor (List ℕ)))
    → i < length files → file ≡ get_or files i file → bytes_eq file.grant grant ≡ true → lent ≡ file.name
    → ((name : List ℕ) → has_name name new ≡ cond (is_eq (slice_cmp nat_cmp lent name)) true (has_name name old))
    → ((name : List ℕ) → has_name name old ≡ list_any (is_file grant name) (take i files))
    → (name : List ℕ) → has_name name new ≡ list_any (is_file grant name) (take (i + 1) files)
named-more files grant i file lent old new within at of_grant of_name gains same name =
    let sought = is_eq (slice_cmp nat_cmp lent name) in
    let passes : sought ≡ is_file grant name (get_or files i file) =
    is_eq-slice_cmp lent name ∙ ap (λ n. bytes_eq n name) of_name
    ∙ ap (λ b. b && bytes_eq file.name name) (sym of_grant) ∙ ap (is_file grant name) at in
    gains name ∙ added sought (has_name name old) ∙ ap (λ b. b || sought) (same name)
    ∙ ap (λ b. list_any (is_file grant name) (take i files) || b) passes ∙ sym (list_any_more (is_file grant name) files i file within)

-- one more file, which is another grant's
pub named-other : (files : List FolderFile) (grant : List ℕ) (i : ℕ) (file : FolderFile) (names : List (Bor (List ℕ)))
    → i < length files → file ≡ get_or files i file → bytes_eq file.grant grant ≡ false
    → ((name : List ℕ) → has_name name names ≡ list_any (is_file grant name) (take i files))
    → (name : List ℕ) → has_name name names ≡ list_any (is_file grant name) (take (i + 1) files)
named-other files grant i file names within at of_other same name =
    let fails : false ≡ is_file grant name (get_or files i file) =
    ap (λ b. b && bytes_eq file.name name) (sym of_other) ∙ ap (is_file grant name) at in
    same name ∙ sym (or-false _) ∙ ap (λ b. list_any (is_file grant name) (take i files) || b) fails
    ∙ sym (list_any_more (is_file grant name) files i file within)

pub names-are : (files : List FolderFile) (grant : List ℕ) (names : List (Bor (List ℕ)))
    → IsStrictlySortedBy (λ x y. slice_cmp nat_cmp x.now y.now) names
    → ((name : List ℕ) → has_name name names ≡ list_any (is_file grant name) files) → AreNames files grant (map (λ k. k.now) names)
names-are files grant names up same = record {
  ascending = ascending-map names up;
  same = λ name.
      let sought : list_any (bytes_eq name) (map (λ k. k.now) names) ≡ is_some (text_in files grant name) =
      sym (has_name-map name names) ∙ same name ∙ sym (is_some-text_in files grant name) in
      (λ c. sym sought ∙ any-Contains name _ c.0 c.1 c.2, λ e. Contains-from_any name _ (sought ∙ e));
}
