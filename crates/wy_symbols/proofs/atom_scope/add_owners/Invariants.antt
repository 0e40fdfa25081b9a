use Rattle.std.proofs.Common.{drop}
use Rattle.wy_symbols.proofs.Filling.{Fills}
use Rattle.wy_symbols.proofs.atom_scope.add_owners.Given as goal

abbrev pub invariant-loop-owner : goal.invariant-loop-owner
invariant-loop-owner l = Fills l.heads l.owners l.atoms l.list.items l.names.items (drop l.owner-index l.owners)
