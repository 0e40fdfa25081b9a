use Rattle.std.proofs.Common.{◌≡◌, ◌<◌, ◌++◌, ℕ, [], length, drop, get_or}
use Rattle.wy_types.specs.Program.{scope_of}
use Rattle.wy_lower.specs.Lowering.{owned_names}
use Rattle.wy_lower.proofs.entries.owned_names.Given as goal

abbrev pub invariant-loop-k : goal.invariant-loop-k
invariant-loop-k l = record {
  long : length l.names.items ≡ length l.scope.literals;
  each : (m : ℕ) → m < length l.scope.literals → get_or l.names.items m [] ++ owned_names m (drop l.k (scope_of l.scope).bodies) ≡ owned_names m (scope_of l.scope).bodies;
}
