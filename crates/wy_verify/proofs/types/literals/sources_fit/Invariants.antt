use Rattle.wy_verified.specs.Kinds.{kinds_in}
use Rattle.wy_verify.specs.Closing.{AreClosed}
use Rattle.wy_verify.proofs.Captured.{CapturedFrom}
use Rattle.wy_verify.proofs.types.literals.sources_fit.Given as goal

abbrev pub invariant-loop-at : goal.invariant-loop-at
invariant-loop-at l = record {
  closed : AreClosed l.site.image l.pairs;
  fits : CapturedFrom l.site l.known.stored l.at l.sources (kinds_in l.site.x l.values);
}
