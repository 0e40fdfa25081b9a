use Rattle.wy_types.specs.Program.{program_of, scope_of}
use Rattle.wy_proving.specs.Certified.{typed}
use Rattle.wy_proving.specs.Proving.{TypeStands}
use Rattle.wy_recheck.proofs.Firsts.{Passed}
use Rattle.wy_recheck.proofs.types.types_in.Given as goal

abbrev pub invariant-loop-i : goal.invariant-loop-i
invariant-loop-i l = Passed typed (TypeStands (program_of l.core) (scope_of l.scope)) l.listed l.i l.types
