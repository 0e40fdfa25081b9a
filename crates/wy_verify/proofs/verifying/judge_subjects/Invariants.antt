use Rattle.wy_verify.specs.Closing.{AreClosed}
use Rattle.wy_verify.proofs.Verdicts.{Goes}
use Rattle.wy_verify.proofs.verifying.judge_subjects.Given as goal

abbrev pub invariant-loop-at : goal.invariant-loop-at
invariant-loop-at l = record {
  closed : AreClosed l.judged l.pairs;
  goes : Goes l.file l.at;
}
