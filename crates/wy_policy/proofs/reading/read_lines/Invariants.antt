use Rattle.std.specs.Option.{option_copied}
use Rattle.wy_policy.specs.Reading.{room_in}
use Rattle.wy_policy.proofs.LineTurns.{IsTurn}
use Rattle.wy_policy.proofs.reading.read_lines.Given as goal

abbrev pub invariant-loop-rest : goal.invariant-loop-rest
invariant-loop-rest l = IsTurn l.bytes l.said l.number (option_copied l.rest)

abbrev pub decreases-loop-rest : goal.decreases-loop-rest
decreases-loop-rest l = room_in (option_copied l.rest)
