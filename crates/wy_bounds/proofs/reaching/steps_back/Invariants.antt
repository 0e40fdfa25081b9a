use Rattle.std.proofs.Common.{List, ◌++◌, ◌<◌, length}
use Rattle.wy_types.specs.declared.path.Step.{Step}
use Rattle.wy_bounds.specs.Worklist.{Traces}
use Rattle.wy_bounds.proofs.reaching.steps_back.Given as goal

abbrev pub invariant-loop-k : goal.invariant-loop-k
invariant-loop-k l = (l.k < length l.entries) × ((rest : List Step) → Traces l.entries l.k rest → Traces l.entries l.at (l.steps.items ++ rest))

abbrev pub decreases-loop-k : goal.decreases-loop-k
decreases-loop-k l = l.k
