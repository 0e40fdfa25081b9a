use Rattle.std.proofs.Common.{◌≡◌, ◌++◌, drop}
use Rattle.wy_types.specs.Program.{program_of}
use Rattle.wy_types.specs.Ground.{arguments_sets}
use Rattle.wy_premises.proofs.members.arguments_sets.Given as goal

abbrev pub invariant-loop-i : goal.invariant-loop-i
invariant-loop-i l = l.out ++ arguments_sets (program_of l.core) l.outer (drop l.i l.names) (drop l.i l.arguments) ≡ arguments_sets (program_of l.core) l.outer l.names l.arguments
