use Rattle.std.proofs.Common.{◌≡◌}
use Rattle.wy_subtype.specs.Graph.{decided_of, pairs_in, IsGraph}
use Rattle.wy_subtype.proofs.graph.Graph.mark_all.Given as goal

abbrev pub invariant-loop-entry : goal.invariant-loop-entry
invariant-loop-entry l = record {
  graph : IsGraph l.self;
  pairs : pairs_in l.self ≡ pairs_in l.fn.self;
  decided : decided_of l.self ≡ decided_of l.fn.self;
}
