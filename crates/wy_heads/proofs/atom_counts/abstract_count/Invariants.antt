use Rattle.std.proofs.Common.{◌≡◌, ◌+◌, ◌≤◌, drop}
use Rattle.wy_heads.specs.Counts.{abstract_count}
use Rattle.wy_heads.proofs.atom_counts.abstract_count.Given as goal

abbrev pub invariant-loop-member : goal.invariant-loop-member
invariant-loop-member l = (l.count + abstract_count (drop l.member-index l.members) ≡ abstract_count l.members) × (l.count ≤ l.member-index)
