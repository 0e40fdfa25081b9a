use Rattle.std.proofs.Common.{◌≡◌}
use Rattle.wy_types.specs.Program.{program_of}
use Rattle.wy_core_tests.proofs.subtyping.asked_twice.Given as goal

abbrev pub invariant-loop-pair : goal.invariant-loop-pair
invariant-loop-pair g l = l.table.about.program ≡ program_of l.core
