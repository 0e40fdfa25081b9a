use Rattle.std.proofs.Common.{◌≡◌, ◌-◌, ◌≤◌, length}
use Rattle.wy_rules.specs.Canonical.{with_local}
use Rattle.wy_certify.proofs.settling.put.Given as goal

abbrev pub invariant-loop-alloc : goal.invariant-loop-alloc
invariant-loop-alloc l = record {
  short : length l.known.items ≤ l.at;
  own : l.typ ≡ l.fn.typ;
  same : with_local l.at l.fn.typ l.known.items ≡ with_local l.at l.fn.typ l.initial.known.items;
}

abbrev pub decreases-loop-alloc : goal.decreases-loop-alloc
decreases-loop-alloc l = l.at - length l.known.items
