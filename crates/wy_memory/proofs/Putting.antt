-- A file put among the files of a folder, and taken from them.
use Rattle.std.proofs.Common.{◌≡◌, ℕ, true, false, List, [], ◌∷◌, ◌++◌, Some, None, get_or, set, refl, sym, ◌∙◌, ap}
use Rattle.std.specs.Prelude.{filter, not, position}
use Rattle.std.specs.Option.{option_map}
use Rattle.std.specs.Cmp.{first_so, second_so}
use Rattle.std.specs.Cmp.Derive.{both_true}
use Rattle.std.proofs.lemmas.List.Quantifiers.{position-Some}
use Rattle.std.proofs.lemmas.Slice.Eq.{bytes_eq-Decides}
use Rattle.wy_memory.specs.declared.folder_files.FolderFile.{FolderFile}
use Rattle.wy_memory.specs.FolderFiles.{is_file, Puts, Removes}
use Rattle.wy_memory.proofs.Finding.{find-set_other, find-set_first, find-push_other, find-push_first, find-filter_none, find-filter_other, none_passes}

same_file : (grant name : List ℕ) (file : FolderFile) → is_file grant name file ≡ true → (file.grant ≡ grant) × (file.name ≡ name)
same_file grant name file e =
    ((bytes_eq-Decides file.grant grant).0 (first_so _ _ e), (bytes_eq-Decides file.name name).0 (second_so _ _ e))

other_file : (g n grant name : List ℕ) (file : FolderFile) → file.grant ≡ grant → file.name ≡ name → ((g ≡ grant) × (n ≡ name) → ⊥)
    → is_file g n file ≡ false
other_file g n grant name file of_grant of_name apart =
    elim (is_file g n file) as (λ b. is_file g n file ≡ b → b ≡ false) [
      | true ↦ λ e. let same = same_file g n file e in absurd (apart (sym same.0 ∙ of_grant, sym same.1 ∙ of_name))
      | false ↦ λ e. refl
    ] refl

itself : (file : FolderFile) → is_file file.grant file.name file ≡ true
itself file = both_true ((bytes_eq-Decides file.grant file.grant).1 refl) ((bytes_eq-Decides file.name file.name).1 refl)

pub puts-set : (files : List FolderFile) (i : ℕ) (file : FolderFile) → position (is_file file.grant file.name) files ≡ Some i
    → Puts files file.grant file.name file.text (set files i file)
puts-set files i file e =
    let first = position-Some (is_file file.grant file.name) files i file e in
    let replaced = same_file file.grant file.name (get_or files i file) first.1 in
    record {
      there = ap (option_map (λ f. f.text)) (find-set_first (is_file file.grant file.name) files i file file first.0 (itself file) first.2);
      others = λ g n apart. ap (option_map (λ f. f.text)) (find-set_other (is_file g n) files i file file
          (other_file g n file.grant file.name file refl refl apart)
          (other_file g n file.grant file.name (get_or files i file) replaced.0 replaced.1 apart));
    }

pub puts-push : (files : List FolderFile) (file : FolderFile) → position (is_file file.grant file.name) files ≡ None
    → Puts files file.grant file.name file.text (files ++ file ∷ [])
puts-push files file e = record {
  there = ap (option_map (λ f. f.text)) (find-push_first (is_file file.grant file.name) files file (none_passes _ files e) (itself file));
  others = λ g n apart. ap (option_map (λ f. f.text)) (find-push_other (is_file g n) files file
      (other_file g n file.grant file.name file refl refl apart));
}

pub removes-filter : (files : List FolderFile) (grant name : List ℕ) → Removes files grant name (filter (λ file. not (is_file grant name file)) files)
removes-filter files grant name = record {
  gone = ap (option_map (λ f. f.text)) (find-filter_none (is_file grant name) files);
  others = λ g n apart. ap (option_map (λ f. f.text)) (find-filter_other (is_file g n) (is_file grant name)
      (λ file at. let same = same_file grant name file at in other_file g n grant name file same.0 same.1 apart) files);
}
