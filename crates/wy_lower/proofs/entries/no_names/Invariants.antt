use Rattle.std.proofs.Common.{◌≡◌, ℕ, [], length, get_or}
use Rattle.wy_lower.proofs.entries.no_names.Given as goal

abbrev pub invariant-loop-kind : goal.invariant-loop-kind
invariant-loop-kind l = record {
  long : length l.names.items ≡ l.kind;
  none : (k : ℕ) → get_or l.names.items k [] ≡ [];
}
