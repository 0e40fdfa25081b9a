use Rattle.wy_verify.proofs.SourcesRead.{ReadFrom}
use Rattle.wy_verify.proofs.states.sources_pass.Given as goal

abbrev pub invariant-loop-at : goal.invariant-loop-at
invariant-loop-at l = ReadFrom l.site l.known.stored l.sources l.at
