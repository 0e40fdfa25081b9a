use Rattle.std.proofs.Common.{drop}
use Rattle.wy_verify.specs.Tables.{same_pair, Adding, bounds_notes}
use Rattle.wy_verify.proofs.tables.Places.add_bodies.Given as goal

abbrev pub invariant-loop-at : goal.invariant-loop-at
invariant-loop-at l = Adding same_pair l.initial.self.entries l.self.entries (bounds_notes l.row l.at (drop l.at l.bodies)) (bounds_notes l.row 0 l.bodies)
