use Rattle.std.proofs.Common.{◌≡◌, ◌≤◌, ◌+◌, length, take}
use Rattle.wy_layout.specs.Lines.{row_of, first_row}
use Rattle.wy_layout.proofs.row.place_at.Given as goal

abbrev pub invariant-loop-rest : goal.invariant-loop-rest
invariant-loop-rest l =
    (row_of l.row l.at l.rest ≡ row_of (first_row l.file) 0 (take l.offset l.bytes)) × (l.at + length l.rest ≡ l.offset) × (l.row.start ≤ l.at) × (l.row.number ≤ l.at + 1)

abbrev pub decreases-loop-rest : goal.decreases-loop-rest
decreases-loop-rest l = length l.rest
