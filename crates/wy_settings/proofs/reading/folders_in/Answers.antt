use Rattle.std.proofs.Common.{◌∙◌, List, ℕ, Option, Some, [], ap, map, unwrap_or}
use Rattle.std.proofs.lemmas.Result.{IfOk-weaker}
use Rattle.wy_settings.specs.Folders.{GivenFolder, folders_after, given_folder}
use Rattle.wy_settings.specs.declared.command_line.GivenFolder as own
use Rattle.wy_settings.proofs.reading.folders_in.Goals as goal

-- the folders of words, if there are words
abbrev folders_of : Option (List (List ℕ)) → Option (List GivenFolder)
folders_of found = folders_after [] (unwrap_or found [])

pub returns-in-Some : goal.returns-in-Some
returns-in-Some c = IfOk-weaker c.given_folders.result _ _ (λ found h. h ∙ ap folders_of c.in-Some.ensures) c.given_folders.ensures

pub returns-in-None : goal.returns-in-None
returns-in-None c = ap (λ (l : List own.GivenFolder). Some (map given_folder l)) c.new.ensures.items ∙ ap folders_of c.in-None.ensures
