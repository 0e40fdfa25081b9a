use Rattle.std.proofs.Common.{◌≡◌}
use Rattle.std.specs.Option.{option_copied}
use Rattle.wy_policy.specs.Reading.{entries_read, pieces, pieces_in, room_in, with_front}
use Rattle.wy_policy.proofs.rows.entries_of.Given as goal

abbrev pub invariant-loop-rest : goal.invariant-loop-rest
invariant-loop-rest l = with_front l.entries (entries_read (pieces_in (option_copied l.rest))) ≡ entries_read (pieces l.text)

abbrev pub decreases-loop-rest : goal.decreases-loop-rest
decreases-loop-rest l = room_in (option_copied l.rest)
