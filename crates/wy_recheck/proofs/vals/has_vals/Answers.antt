use Rattle.wy_types.specs.Program.{scope_of}
use Rattle.wy_types.specs.Vals.{scope_vals}
use Rattle.wy_recheck.proofs.ValsTaken.{short_of, none_left}
use Rattle.wy_recheck.proofs.vals.has_vals.Goals as goal

pub returns-in-None : goal.returns-in-None
returns-in-None c = short_of c.args.number (scope_vals (scope_of c.args.scope.now)) (rw c.in-None.is at c.take_all.ensures)

pub returns-in-Some : goal.returns-in-Some
returns-in-Some c = none_left c.args.number c.in-Some.left (scope_vals (scope_of c.args.scope.now)) (rw c.in-Some.is at c.take_all.ensures)
