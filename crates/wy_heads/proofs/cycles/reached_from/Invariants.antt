use Rattle.std.proofs.Common.{◌≡◌, ◌-◌, length}
use Rattle.wy_heads.proofs.Searching.{IsSearch}
use Rattle.wy_heads.proofs.cycles.reached_from.Given as goal

abbrev pub invariant-loop-next : goal.invariant-loop-next
invariant-loop-next l = record {
  bound : l.seen.below ≡ length l.edges;
  search : IsSearch l.edges l.start l.seen.list l.next;
}

abbrev pub decreases-loop-next : goal.decreases-loop-next
decreases-loop-next l = length l.edges - l.next
