use Rattle.std.proofs.Common.{rules, tests, ◌≡◌, ◌∙◌, ◌||◌, List, [], ◌∷◌, Bool, ap, map, refl}
use Rattle.std.specs.List.{list_any}
use Rattle.std.proofs.lemmas.Iterator.{YieldsList-from_slice}
use Rattle.std.proofs.lemmas.Iterator.Search.{any_from_yields_List}
use Rattle.wy_settings.specs.Folders.{GivenFolder, given_folder, is_for}
use Rattle.wy_settings.specs.declared.command_line.GivenFolder as own
use Rattle.wy_settings.proofs.folders.is_given.Goals as goal

any_mapped : (test : GivenFolder → Bool) (folders : List own.GivenFolder) → list_any (λ f. test (given_folder f)) folders ≡ list_any test (map given_folder folders)
any_mapped test [] = refl
any_mapped test (f ∷ fs) = ap (λ (b : Bool). test (given_folder f) || b) (any_mapped test fs)

pub returns : goal.returns
returns c =
    any_from_yields_List (λ (f : own.GivenFolder). is_for c.args.grant.now (given_folder f)) _ _ _ c.any.ensures.ran (YieldsList-from_slice c.args.folders.now cc) (λ x b q k. search (rules, tests))
    ∙ any_mapped (is_for c.args.grant.now) c.args.folders.now
