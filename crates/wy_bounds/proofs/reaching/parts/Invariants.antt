use Rattle.std.proofs.Common.{◌≡◌, ◌++◌, drop, map}
use Rattle.wy_types.specs.Types.{signature}
use Rattle.wy_bounds.specs.Worklist.{all_entries}
use Rattle.wy_bounds.proofs.reaching.parts.Given as goal

abbrev pub invariant-loop-m : goal.invariant-loop-m
invariant-loop-m l = l.out.items ++ all_entries l.at l.positive (map signature (drop l.m-index l.methods)) ≡ all_entries l.at l.positive (map signature l.methods)
