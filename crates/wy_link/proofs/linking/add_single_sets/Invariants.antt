use Rattle.std.proofs.Common.{◌≡◌, ◌+◌, ◌≤◌, ◌++◌, length, drop}
use Rattle.wy_types.specs.Ground.{single_sets}
use Rattle.wy_link.proofs.linking.add_single_sets.Given as goal

abbrev pub invariant-loop-member : goal.invariant-loop-member
invariant-loop-member l =
    (l.sets ++ single_sets (length l.sets) (drop l._member-index l.members) ≡ l.initial.sets ++ single_sets (length l.initial.sets) l.members) ×
    (length l.sets + length (drop l._member-index l.members) ≤ 512)
