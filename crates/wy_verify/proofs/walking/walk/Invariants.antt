use Rattle.wy_verify.specs.Closing.{AreClosed}
use Rattle.wy_verify.proofs.Turning.{Goes}
use Rattle.wy_verify.proofs.walking.walk.Given as goal

abbrev pub invariant-loop-at : goal.invariant-loop-at
invariant-loop-at l = record {
  closed : AreClosed l.site.image l.pairs;
  goes : Goes l.site l.at l.visit;
}
