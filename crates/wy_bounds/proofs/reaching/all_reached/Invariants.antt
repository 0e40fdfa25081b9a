use Rattle.std.proofs.Common.{◌-◌}
use Rattle.wy_types.specs.Program.{program_of}
use Rattle.wy_types.proofs.Finite.{marked_bound}
use Rattle.wy_bounds.specs.Worklist.{IsWork}
use Rattle.wy_bounds.proofs.reaching.all_reached.Given as goal

abbrev pub invariant-loop-next : goal.invariant-loop-next
invariant-loop-next l = IsWork (program_of l.core) l.scope l.t l.table l.next

abbrev pub decreases-loop-next : goal.decreases-loop-next
decreases-loop-next l = marked_bound (program_of l.core) l.scope - l.next
