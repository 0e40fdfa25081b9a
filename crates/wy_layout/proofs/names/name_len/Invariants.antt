use Rattle.std.proofs.Common.{◌≡◌, ◌+◌, ◌≤◌, length}
use Rattle.wy_layout.specs.Read.{name_len}
use Rattle.wy_layout.proofs.names.name_len.Given as goal

abbrev pub invariant-loop-more : goal.invariant-loop-more
invariant-loop-more l = (name_len 0 l.rest + length l.text ≡ name_len 0 l.text + length l.rest) × (length l.rest ≤ length l.text)

abbrev pub decreases-loop-more : goal.decreases-loop-more
decreases-loop-more l = length l.rest
