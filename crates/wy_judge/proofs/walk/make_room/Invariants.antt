use Rattle.std.proofs.Common.{◌+◌, ◌-◌, ◌≤◌, max, length}
use Rattle.wy_judge.specs.Tables.{IsKept}
use Rattle.wy_judge.proofs.walk.make_room.Given as goal

abbrev pub invariant-loop-table : goal.invariant-loop-table
invariant-loop-table l =
    IsKept l.initial.table.items l.table.items
    × (length l.initial.table.items ≤ length l.table.items)
    × (length l.table.items ≤ max (length l.initial.table.items) (l.number + 1))

abbrev pub decreases-loop-table : goal.decreases-loop-table
decreases-loop-table l = l.number + 1 - length l.table.items
