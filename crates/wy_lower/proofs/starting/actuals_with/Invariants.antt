use Rattle.std.proofs.Common.{◌≡◌, ◌++◌, map, drop}
use Rattle.wy_meaning.specs.Starts.{main_actuals, started_of}
use Rattle.wy_lower.proofs.starting.actuals_with.Given as goal

abbrev pub invariant-loop-k : goal.invariant-loop-k
invariant-loop-k l = l.actuals.items ++ main_actuals (map started_of l.instances) l.k (drop l.k l.names) ≡ main_actuals (map started_of l.instances) 0 l.names
