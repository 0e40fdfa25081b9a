use Rattle.std.proofs.Common.{◌≡◌, ◌+◌, ◌-◌, ◌≤◌, length, not}
use Rattle.wy_lanes.specs.Runs.{front_len, is_of}
use Rattle.wy_lanes.proofs.runs.gap_len.Given as goal

abbrev pub invariant-loop-rest : goal.invariant-loop-rest
invariant-loop-rest l = (length l.rest ≤ length l.bytes) × (front_len (λ b. not (is_of l.class b)) l.bytes ≡ (length l.bytes - length l.rest) + front_len (λ b. not (is_of l.class b)) l.rest)

abbrev pub decreases-loop-rest : goal.decreases-loop-rest
decreases-loop-rest l = length l.rest
