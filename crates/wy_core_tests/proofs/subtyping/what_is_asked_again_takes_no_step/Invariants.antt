use Rattle.wy_core_tests.proofs.subtyping.what_is_asked_again_takes_no_step.Given as goal

abbrev pub ghosts-asked_twice : goal.ghosts-asked_twice
ghosts-asked_twice g a = record { name = a.blank.name; parts = a.blank.parts }
