use Rattle.std.proofs.Common.{drop}
use Rattle.wy_verify.specs.Tables.{same_triple, Adding, literals_notes}
use Rattle.wy_verify.proofs.tables.Called.add_scope.Given as goal

abbrev pub invariant-loop-at : goal.invariant-loop-at
invariant-loop-at l = Adding same_triple l.initial.self.bodies l.self.bodies (literals_notes l.scope l.at (drop l.at l.literals)) (literals_notes l.scope 0 l.literals)
