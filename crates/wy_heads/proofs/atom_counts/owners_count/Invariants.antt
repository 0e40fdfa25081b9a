use Rattle.std.proofs.Common.{◌≡◌, ◌+◌, ◌≤◌, drop}
use Rattle.std.specs.Prelude.{min}
use Rattle.wy_heads.specs.Counts.{owners_count}
use Rattle.wy_heads.proofs.atom_counts.owners_count.Given as goal

abbrev pub invariant-loop-owner : goal.invariant-loop-owner
invariant-loop-owner l = (min 513 (l.count + owners_count l.counts (drop l.owner-index l.owners)) ≡ min 513 (owners_count l.counts l.owners)) × (l.count ≤ 513)
