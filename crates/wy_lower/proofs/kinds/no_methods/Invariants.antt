use Rattle.std.proofs.Common.{◌≡◌, ℕ, [], length, get_or}
use Rattle.wy_lower.proofs.kinds.no_methods.Given as goal

abbrev pub invariant-loop-kind : goal.invariant-loop-kind
invariant-loop-kind l = record {
  long : length l.methods.items ≡ l.kind;
  none : (k : ℕ) → get_or l.methods.items k [] ≡ [];
}
