use Rattle.std.proofs.Common.{◌≡◌, ◌<◌, ◌+◌, ◌++◌, ℕ, [], length, drop, get_or}
use Rattle.wy_types.specs.Program.{scope_of}
use Rattle.wy_lower.specs.Lowering.{methods_code}
use Rattle.wy_lower.specs.EmitBodies.{whole_program}
use Rattle.wy_lower.proofs.kinds.methods_of.Given as goal

abbrev pub invariant-loop-k : goal.invariant-loop-k
invariant-loop-k l = record {
  long : length l.methods.items ≡ length l.scope.literals;
  each : (m : ℕ) → m < length l.scope.literals → get_or l.methods.items m [] ++ methods_code (whole_program l.whole) m (l.start + 1 + l.k) (drop l.k (scope_of l.scope).bodies) ≡ methods_code (whole_program l.whole) m (l.start + 1) (scope_of l.scope).bodies;
}
