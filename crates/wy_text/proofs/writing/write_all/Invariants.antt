use Rattle.std.proofs.Common.{length}
use Rattle.wy_text.specs.Writing.{WritesUpTo}
use Rattle.wy_text.proofs.writing.write_all.Given as goal

abbrev pub invariant-loop-rest : goal.invariant-loop-rest
invariant-loop-rest g l = WritesUpTo l.text l.rest (g.S.Sink.state l.initial.sink) (g.S.Sink.state l.sink)

abbrev pub decreases-loop-rest : goal.decreases-loop-rest
decreases-loop-rest g l = length l.rest
