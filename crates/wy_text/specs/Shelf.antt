-- What a shelf means.
use Rattle.std.specs.Prelude.{◌≡◌, ℕ, List, [], ◌∷◌, Option, Some, None, true, false, take, ⊤, bytes_eq, find}
use Rattle.std.specs.Option.{option_map}
use Rattle.wy_text.specs.declared.shelf.NamedText.{NamedText}
use Rattle.wy_text.specs.declared.shelf.ReadDone.{ReadDone}

-- the files and the reads, each where the shelf tells them, and the count of faults
pub record ShelfState : Type 0 where
  pub files : Option (List NamedText)
  pub reads : Option (List ReadDone)
  pub faults : ℕ

-- the text of the file of a name
abbrev pub file_named : List ℕ → List NamedText → Option (List ℕ)
file_named name files = option_map (λ f. f.text) (find (λ f. bytes_eq f.name name) files)

-- these are the first bytes of the named file, where the files are told
abbrev pub GivesFile : Option (List NamedText) → List ℕ → ℕ → List ℕ → Type 0
GivesFile None name most bytes = ⊤
GivesFile (Some files) name most bytes = (text : List ℕ) × (file_named name files ≡ Some text) × (bytes ≡ take most text)

-- the read that succeeds, and the read that fails
abbrev pub read_well : List ℕ → List ReadDone
read_well name = record { name = name; failed = false } ∷ []

abbrev pub read_badly : List ℕ → List ReadDone
read_badly name = record { name = name; failed = true } ∷ []
