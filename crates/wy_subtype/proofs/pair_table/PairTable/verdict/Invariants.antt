use Rattle.wy_subtype.proofs.pair_table.PairTable.verdict.Given as goal

abbrev pub ghosts-decide_from : goal.ghosts-decide_from
ghosts-decide_from a = record { name = a.blank.name; parts = a.blank.parts }
