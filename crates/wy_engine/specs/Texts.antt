-- The texts of a call: what was read of its files, or the one that the number of a sample makes.
use Rattle.std.specs.Prelude.{◌≡◌, ◌≤◌, ◌+◌, ℕ, List, [], ◌∷◌, Option, Some, length, ⊤}
use Rattle.std.specs.Option.{option_map}
use Rattle.wy_text.specs.Shelf.{GivesFile, ShelfState}
use Rattle.wy_sample.specs.Sample.{sample_text}
use Rattle.wy_settings.specs.Settings.{Settings, sample_number}
use Rattle.wy_settings.specs.declared.command_line.Command.{Command}
use Rattle.wy_settings.specs.declared.command_line.Command.TheVariants as command
use Rattle.wy_engine.specs.Certificates.{most_certificate}
use Rattle.wy_engine.specs.TopCall.{IsSet, TopCall, most_files}

-- how many bytes are asked for of a file: one more than a text or a policy may have
abbrev pub asked_bytes : ℕ
asked_bytes = 1048577

-- .. of a command's first file, which under `recheck` is a certificate
abbrev pub first_bytes : Command → ℕ
first_bytes command.Recheck = most_certificate + 1
first_bytes other = asked_bytes

-- Each text is as many first bytes of the file of its name, if the shelf tells its files. There is one text for each name.
abbrev pub GivesFiles : ℕ → ShelfState → List (List ℕ) → List (List ℕ) → Type 0
GivesFiles first shelf [] [] = ⊤
GivesFiles first shelf (name ∷ names) (text ∷ texts) = GivesFile shelf.files name first text × GivesFiles asked_bytes shelf names texts
GivesFiles first shelf [] (text ∷ texts) = ⊥
GivesFiles first shelf (name ∷ names) [] = ⊥

-- the one text of `sample`, by its file argument, which is a number
abbrev pub sampled : List (List ℕ) → Option (List (List ℕ))
sampled names = option_map (λ number. sample_text number ∷ []) (sample_number names)

-- the texts of a command: what was read of its files, a policy or a certificate among them; and of `sample` the one that its number makes
abbrev pub AreTexts : Command → ShelfState → List (List ℕ) → List (List ℕ) → Type 0
AreTexts command.Sample shelf names texts = sampled names ≡ Some texts
AreTexts asked shelf names texts = GivesFiles (first_bytes asked) shelf names texts

-- the call has these settings, no more files than the limit, and these texts
pub record HasTexts (call : TopCall) (asked : Settings) (texts : List (List ℕ)) : Type 0 where
  pub set : IsSet call asked
  pub few : length asked.files ≤ most_files
  pub are : AreTexts asked.command call.shelf asked.files texts
