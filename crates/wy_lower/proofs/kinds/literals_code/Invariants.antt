use Rattle.std.proofs.Common.{◌≡◌, ◌++◌, drop}
use Rattle.wy_types.specs.Program.{scope_of}
use Rattle.wy_lower.specs.Lowering.{literals_code}
use Rattle.wy_lower.specs.EmitBodies.{whole_program, whole_starts}
use Rattle.wy_lower.proofs.kinds.literals_code.Given as goal

abbrev pub invariant-loop-k : goal.invariant-loop-k
invariant-loop-k l =
    l.all ++ literals_code (whole_program l.whole) (whole_starts l.whole) (scope_of l.scope) l.first l.k (drop l.k (scope_of l.scope).literals) ≡
    literals_code (whole_program l.whole) (whole_starts l.whole) (scope_of l.scope) l.first 0 (scope_of l.scope).literals
