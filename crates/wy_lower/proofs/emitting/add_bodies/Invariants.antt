use Rattle.std.proofs.Common.{◌≡◌, ◌++◌, drop}
use Rattle.wy_types.specs.Program.{scope_of}
use Rattle.wy_lower.specs.Lowering.{bodies_code}
use Rattle.wy_lower.specs.EmitBodies.{whole_program, whole_starts}
use Rattle.wy_lower.proofs.emitting.add_bodies.Given as goal

abbrev pub invariant-loop-k : goal.invariant-loop-k
invariant-loop-k l =
    l.bodies ++ bodies_code (whole_program l.whole) (whole_starts l.whole) (scope_of l.scope) l.k (drop l.k (scope_of l.scope).bodies) ≡
    l.initial.bodies ++ bodies_code (whole_program l.whole) (whole_starts l.whole) (scope_of l.scope) 0 (scope_of l.scope).bodies
