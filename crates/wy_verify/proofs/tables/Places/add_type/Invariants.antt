use Rattle.std.proofs.Common.{drop}
use Rattle.wy_verify.specs.Tables.{same_pair, Adding, signatures_notes}
use Rattle.wy_verify.proofs.tables.Places.add_type.Given as goal

abbrev pub invariant-loop-at : goal.invariant-loop-at
invariant-loop-at l = Adding same_pair l.initial.self.entries l.self.entries (signatures_notes l.row l.at (drop l.at l.methods)) (signatures_notes l.row 0 l.methods)
