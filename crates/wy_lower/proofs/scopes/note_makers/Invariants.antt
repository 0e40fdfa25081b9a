use Rattle.std.proofs.Common.{◌≡◌, ◌<◌, ℕ, length, drop, get_or, None}
use Rattle.wy_lower.specs.EmitScopes.{maker_noted}
use Rattle.wy_lower.proofs.scopes.note_makers.Given as goal

abbrev pub invariant-loop-literal : goal.invariant-loop-literal
invariant-loop-literal l = record {
  long : length l.makers.items ≡ length l.initial.makers.items;
  noted : (k : ℕ) → k < length l.initial.makers.items → maker_noted l.number (drop l.literal-index l.makes) k (get_or l.makers.items k None) ≡ maker_noted l.number l.makes k (get_or l.initial.makers.items k None);
}
