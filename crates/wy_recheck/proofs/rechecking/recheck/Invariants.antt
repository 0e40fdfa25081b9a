use Rattle.wy_recheck.proofs.rechecking.recheck.Given as goal

abbrev pub ghosts-recheck_from : goal.ghosts-recheck_from
ghosts-recheck_from a = record { name = a.blank.name; parts = a.blank.parts }
