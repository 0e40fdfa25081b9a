use Rattle.std.proofs.Common.{drop}
use Rattle.wy_verify.specs.Tables.{same_triple, Adding, methods_notes}
use Rattle.wy_verify.proofs.tables.Called.add_literal.Given as goal

abbrev pub invariant-loop-at : goal.invariant-loop-at
invariant-loop-at l = Adding same_triple l.initial.self.bodies l.self.bodies (methods_notes l.scope l.literal (drop l.at l.methods)) (methods_notes l.scope l.literal l.methods)
