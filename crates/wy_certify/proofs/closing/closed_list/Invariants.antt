use Rattle.wy_certify.proofs.closing.closed_list.Given as goal

abbrev pub ghosts-closed_from : goal.ghosts-closed_from
ghosts-closed_from a = record { name = a.blank.name; parts = a.blank.parts }
