use Rattle.std.proofs.Common.{◌≡◌, ◌==◌, ◌&&◌, ◌+◌, ◌≤◌, length, not}
use Rattle.wy_lanes.specs.Runs.{front_len}
use Rattle.wy_layout.specs.Texts as spec
use Rattle.wy_layout.proofs.escape.plain_len.Given as goal

abbrev pub invariant-loop-rest : goal.invariant-loop-rest
invariant-loop-rest l =
    (front_len (λ b. not (b == 92) && not (spec.is_control b)) l.rest + length l.bytes ≡ front_len (λ b. not (b == 92) && not (spec.is_control b)) l.bytes + length l.rest) × (length l.rest ≤ length l.bytes)

abbrev pub decreases-loop-rest : goal.decreases-loop-rest
decreases-loop-rest l = length l.rest
