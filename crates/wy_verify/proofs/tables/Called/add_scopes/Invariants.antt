use Rattle.std.proofs.Common.{drop}
use Rattle.wy_verify.specs.Tables.{same_triple, Adding, scopes_notes}
use Rattle.wy_verify.proofs.tables.Called.add_scopes.Given as goal

abbrev pub invariant-loop-at : goal.invariant-loop-at
invariant-loop-at l = Adding same_triple l.initial.self.bodies l.self.bodies (scopes_notes l.at (drop l.at l.scopes)) (scopes_notes 0 l.scopes)
