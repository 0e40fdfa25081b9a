use Rattle.std.proofs.Common.{◌-◌}
use Rattle.wy_types.specs.Program.{program_of}
use Rattle.wy_types.proofs.Reaching.{IsWork}
use Rattle.wy_types.proofs.reach.reach.Given as goal

abbrev pub invariant-loop-next : goal.invariant-loop-next
invariant-loop-next l = IsWork (program_of l.core) l.scope l.seen l.next

abbrev pub decreases-loop-next : goal.decreases-loop-next
decreases-loop-next l = 1025 - l.next
