use Rattle.std.proofs.Common.{◌≡◌, [], map, drop}
use Rattle.wy_settings.specs.Folders.{folders_after, given_folder}
use Rattle.wy_settings.proofs.folders.given_folders.Given as goal

abbrev pub invariant-loop-word : goal.invariant-loop-word
invariant-loop-word l =
    folders_after [] (map (λ word. word.now) l.words) ≡ folders_after (map given_folder l.folders.items) (map (λ word. word.now) (drop l.word-index l.words))
