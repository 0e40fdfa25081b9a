use Rattle.std.proofs.Common.{drop}
use Rattle.wy_verified.specs.Ranges.{literal_roles}
use Rattle.wy_verify.specs.Tables.{same_pair, Adding, role_notes}
use Rattle.wy_verify.proofs.tables.Owners.add_literals.Given as goal

abbrev pub invariant-loop-at : goal.invariant-loop-at
invariant-loop-at l = Adding same_pair l.initial.self.owners l.self.owners (role_notes l.scope (literal_roles l.at (drop l.at l.literals))) (role_notes l.scope (literal_roles 0 l.literals))
