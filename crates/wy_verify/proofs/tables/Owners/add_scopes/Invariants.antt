use Rattle.std.proofs.Common.{drop}
use Rattle.wy_verify.specs.Tables.{same_pair, Adding, owners_notes}
use Rattle.wy_verify.proofs.tables.Owners.add_scopes.Given as goal

abbrev pub invariant-loop-at : goal.invariant-loop-at
invariant-loop-at l = Adding same_pair l.initial.self.owners l.self.owners (owners_notes l.at (drop l.at l.scopes)) (owners_notes 0 l.scopes)
