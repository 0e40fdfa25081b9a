use Rattle.wy_verified.specs.Kinds.{kinds_in}
use Rattle.wy_verify.specs.Closing.{AreClosed}
use Rattle.wy_verify.proofs.ArgumentsFit.{Looked}
use Rattle.wy_verify.proofs.arguments.first_unfit.Given as goal

abbrev pub invariant-loop-at : goal.invariant-loop-at
invariant-loop-at l = record {
  closed : AreClosed l.judged l.pairs;
  looked : Looked l.judged l.arguments (kinds_in l.x l.values) l.at;
}
