use Rattle.std.proofs.Common.{rules, tests, ◌≡◌, ◌∙◌, ◌&&◌, List, [], ◌∷◌, Bool, ap, map, refl}
use Rattle.std.specs.List.{list_all}
use Rattle.std.proofs.lemmas.Iterator.{YieldsList-from_slice}
use Rattle.std.proofs.lemmas.Iterator.Search.{all_from_yields_List}
use Rattle.wy_settings.specs.Folders.{GivenFolder, given_folder}
use Rattle.wy_settings.specs.declared.command_line.GivenFolder as own
use Rattle.wy_engine.specs.Folders.{fits_one}
use Rattle.wy_engine.proofs.folders.fit_grants.Goals as goal

all_mapped : (test : GivenFolder → Bool) (folders : List own.GivenFolder) → list_all (λ f. test (given_folder f)) folders ≡ list_all test (map given_folder folders)
all_mapped test [] = refl
all_mapped test (f ∷ fs) = ap (λ (b : Bool). test (given_folder f) && b) (all_mapped test fs)

pub returns : goal.returns
returns c =
    all_from_yields_List (λ (f : own.GivenFolder). fits_one c.args.grants.now (given_folder f)) _ _ _ c.all.ensures.ran (YieldsList-from_slice c.args.folders.now cc) (λ x b q k. search (rules, tests))
    ∙ all_mapped (fits_one c.args.grants.now) c.args.folders.now
