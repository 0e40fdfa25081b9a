use Rattle.std.proofs.Common.{drop}
use Rattle.wy_verified.specs.Ranges.{entry_roles}
use Rattle.wy_verify.specs.Tables.{same_pair, Adding, role_notes}
use Rattle.wy_verify.proofs.tables.Owners.add_methods.Given as goal

abbrev pub invariant-loop-at : goal.invariant-loop-at
invariant-loop-at l = Adding same_pair l.initial.self.owners l.self.owners (role_notes l.scope (entry_roles l.literal (drop l.at l.methods))) (role_notes l.scope (entry_roles l.literal l.methods))
