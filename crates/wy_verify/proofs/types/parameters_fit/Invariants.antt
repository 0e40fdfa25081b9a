use Rattle.wy_verify.specs.Closing.{AreClosed}
use Rattle.wy_verify.proofs.Fitting.{FitsFrom}
use Rattle.wy_verify.proofs.types.parameters_fit.Given as goal

abbrev pub invariant-loop-at : goal.invariant-loop-at
invariant-loop-at l = record {
  closed : AreClosed l.site.image l.pairs;
  fits : FitsFrom l.site.image l.at l.kinds l.method.params;
}
