use Rattle.std.proofs.Common.{◌≡◌, ◌<◌, ℕ, [], false, length}
use Rattle.std.specs.Prelude.{◌↔◌, slice_index_or, IsTrue}
use Rattle.wy_heads.specs.Leading.{Reached}
use Rattle.wy_heads.proofs.leading.reached_of.Given as goal

abbrev pub invariant-loop-start : goal.invariant-loop-start
invariant-loop-start l = record {
  number : length l.reached.items ≡ l.start;
  reached : (j k : ℕ) → j < l.start → IsTrue (slice_index_or (slice_index_or l.reached.items j []) k false) ↔ Reached l.edges j k;
}
