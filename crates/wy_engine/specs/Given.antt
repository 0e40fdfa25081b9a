-- The texts of a call over a shelf that tells its files: what is promised of the texts that were read is then promised of the files'.
use Rattle.std.specs.Prelude.{◌≡◌, ◌≢◌, ◌≤◌, ℕ, List, [], ◌∷◌, Option, Some, length}
use Rattle.std.specs.Option.{option_and_then, option_map}
use Rattle.wy_text.specs.Shelf.{ShelfState, file_named}
use Rattle.wy_text.specs.declared.shelf.NamedText.{NamedText}
use Rattle.wy_settings.specs.Settings.{Settings}
use Rattle.wy_settings.specs.declared.command_line.Command.{Command}
use Rattle.wy_settings.specs.declared.command_line.Command.TheVariants as command
use Rattle.wy_engine.specs.Headline.{Accepts, Settles}
use Rattle.wy_engine.specs.Texts.{sampled}
use Rattle.wy_engine.specs.TopCall.{IsSet, TopCall, most_files}
use Rattle.wy_engine.specs.declared.status.Status.TheVariants as status

-- the texts of files of these names
abbrev pub texts_of : List NamedText → List (List ℕ) → Option (List (List ℕ))
texts_of files [] = Some []
texts_of files (name ∷ names) = option_and_then (λ text. option_map (λ texts. text ∷ texts) (texts_of files names)) (file_named name files)

-- the shelf tells these texts for files of these names
pub record TellsTexts (shelf : ShelfState) (names texts : List (List ℕ)) : Type 0 where
  pub files : List NamedText
  pub told : shelf.files ≡ Some files
  pub found : texts_of files names ≡ Some texts

-- the texts of a command: those that the shelf tells for its files, and of `sample` the one that its number makes
abbrev pub AreTold : Command → ShelfState → List (List ℕ) → List (List ℕ) → Type 0
AreTold command.Sample shelf names texts = sampled names ≡ Some texts
AreTold asked shelf names texts = TellsTexts shelf names texts

-- the call has these settings, no more files than the limit, and these texts
pub record IsGiven (call : TopCall) (asked : Settings) (texts : List (List ℕ)) : Type 0 where
  pub set : IsSet call asked
  pub few : length asked.files ≤ most_files
  pub are : AreTold asked.command call.shelf asked.files texts

-- If all files were read, what a call did is what the rules say of the files that the shelf tells.
abbrev pub TextsAreTold : Type 0
TextsAreTold = (call : TopCall) (settles : Settles call) (asked : Settings) (texts : List (List ℕ)) → IsGiven call asked texts
    → ((file : ℕ) → call.status ≢ status.Unread file) → Accepts call asked settles.did texts
