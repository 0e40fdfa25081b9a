use Rattle.std.proofs.Common.{◌-◌}
use Rattle.wy_types.proofs.Finite.{pair_bound}
use Rattle.wy_types.specs.Program.{program_of}
use Rattle.wy_certify.specs.Closed.{pairs_in, IsKept, IsExplored}
use Rattle.wy_certify.proofs.closing.Closing.explore.Given as goal

abbrev pub invariant-loop-next : goal.invariant-loop-next
invariant-loop-next g l = record {
  kept : IsKept l.work;
  explored : IsExplored (program_of l.self.core.now) l.self.number l.self.mode (pairs_in l.initial.work) (pairs_in l.work) l.next;
}

abbrev pub decreases-loop-next : goal.decreases-loop-next
decreases-loop-next g l = pair_bound (program_of l.self.core.now) l.self.number - l.next
