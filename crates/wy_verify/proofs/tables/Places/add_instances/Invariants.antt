use Rattle.std.proofs.Common.{drop}
use Rattle.wy_verify.specs.Tables.{same_pair, Adding, typings_notes, typings_in}
use Rattle.wy_verify.proofs.tables.Places.add_instances.Given as goal

abbrev pub invariant-loop-at : goal.invariant-loop-at
invariant-loop-at l = Adding same_pair l.initial.self.entries l.self.entries (typings_notes l.at (drop l.at (typings_in l.instances))) (typings_notes 0 (typings_in l.instances))
