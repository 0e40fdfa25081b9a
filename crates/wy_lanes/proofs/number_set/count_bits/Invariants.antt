use Rattle.std.proofs.Common.{◌≡◌, ◌≤◌, ◌*◌, take}
use Rattle.std.specs.List.{sum_by}
use Rattle.std.specs.Int.RustNames.{count_ones}
use Rattle.wy_lanes.proofs.number_set.count_bits.Given as goal

abbrev pub invariant-loop-word : goal.invariant-loop-word
invariant-loop-word l = record { counted : l.count ≡ sum_by count_ones (take l.word-index l.words); small : l.count ≤ 64 * l.word-index }
