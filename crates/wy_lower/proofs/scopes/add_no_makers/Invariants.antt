use Rattle.std.proofs.Common.{◌≡◌, ℕ, length, get_or, None}
use Rattle.wy_lower.proofs.scopes.add_no_makers.Given as goal

abbrev pub invariant-loop-literal : goal.invariant-loop-literal
invariant-loop-literal l = record {
  long : length l.makers.items ≡ l.literal;
  none : (k : ℕ) → get_or l.makers.items k None ≡ None;
}
