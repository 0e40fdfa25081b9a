use Rattle.std.proofs.Common.{◌-◌}
use Rattle.wy_types.proofs.Finite.{pair_bound}
use Rattle.wy_types.specs.Program.{program_of}
use Rattle.wy_subtype.specs.Graph.{decided_of, mets_in, IsGraph, AreNumbers}
use Rattle.wy_subtype.proofs.Deciding.{IsExploring}
use Rattle.wy_subtype.proofs.graph.Graph.explore.Given as goal

abbrev pub invariant-loop-next : goal.invariant-loop-next
invariant-loop-next g l = record {
  graph : IsGraph l.self;
  numbers : AreNumbers l.self l.work;
  exploring : IsExploring (mets_in l.fn.self l.initial.work) (mets_in l.self l.work) l.next (decided_of l.fn.self) (decided_of l.self) l.fn.steps l.steps;
}

abbrev pub decreases-loop-next : goal.decreases-loop-next
decreases-loop-next g l = pair_bound (program_of l.fn.self.core.now) l.fn.self.scope - l.next
