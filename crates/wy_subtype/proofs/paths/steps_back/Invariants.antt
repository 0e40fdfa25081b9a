use Rattle.std.proofs.Common.{List, ◌++◌, ◌<◌, length}
use Rattle.wy_types.specs.declared.path.Step.{Step}
use Rattle.wy_types.specs.Program.{program_of}
use Rattle.wy_subtype.specs.Graph.{mets_in}
use Rattle.wy_subtype.specs.Worklist.{Traces}
use Rattle.wy_subtype.proofs.paths.steps_back.Given as goal

abbrev pub invariant-loop-k : goal.invariant-loop-k
invariant-loop-k l = record {
  within : l.k < length l.work;
  traced : (rest : List Step) → Traces (program_of l.graph.core.now) l.graph.scope l.graph.mode (mets_in l.graph l.work) l.k rest →
      Traces (program_of l.graph.core.now) l.graph.scope l.graph.mode (mets_in l.graph l.work) l.at (l.steps.items ++ rest);
}

abbrev pub decreases-loop-k : goal.decreases-loop-k
decreases-loop-k l = l.k
