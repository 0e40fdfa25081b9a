use Rattle.wy_core_tests.proofs.subtyping.asked.Given as goal

abbrev pub ghosts-asked_from : goal.ghosts-asked_from
ghosts-asked_from a = record { name = a.blank.name; parts = a.blank.parts }
