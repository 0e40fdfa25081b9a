-- What `load` makes ready for code, so that a run of it wants no memory for calls and starts. (docs/LANGUAGE.md, "Code")
use Rattle.std.specs.Prelude.{◌≡◌, ◌≤◌, ◌<◌, ◌+◌, ◌^◌, ℕ, List, [], ◌∷◌, length, max}
use Rattle.wy_code.specs.declared.code.Body.{Body}
use Rattle.wy_code.specs.declared.code.Code.{Code}
use Rattle.wy_code.specs.Running.{objects_at_first}
use Rattle.wy_code.specs.Stores.{Thing}
use Rattle.wy_machine.specs.declared.stack.Limits.{Limits}

-- how many slots and operands a body has at most: those that it says, and no fewer than it begins with
abbrev pub words_of_body : Body → ℕ
words_of_body b = max b.slots (1 + b.parameters + b.vals)

abbrev pub most_words : List Body → ℕ
most_words [] = 1
most_words (b ∷ bs) = max (words_of_body b) (most_words bs)

-- each body of the code has room, and these are the instances' objects
pub record IsLoaded (code : Code) (limits : Limits) (things : List Thing) : Type 0 where
  pub room : most_words code.bodies ≤ limits.words
  pub objects : things ≡ objects_at_first code 0 code.instances
  pub few : length code.instances < 2 ^ 32
