use Rattle.std.proofs.Common.{drop}
use Rattle.wy_verify.specs.Tables.{same_pair, Adding, types_notes}
use Rattle.wy_verify.proofs.tables.Places.add_types.Given as goal

abbrev pub invariant-loop-at : goal.invariant-loop-at
invariant-loop-at l = Adding same_pair l.initial.self.entries l.self.entries (types_notes l.at (drop l.at l.types)) (types_notes 0 l.types)
