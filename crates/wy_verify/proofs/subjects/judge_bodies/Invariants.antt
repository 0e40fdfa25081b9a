use Rattle.wy_verified.specs.CodeOf.{image_of}
use Rattle.wy_verify.specs.Closing.{AreClosed}
use Rattle.wy_verify.proofs.Verdicts.{GoesBodies}
use Rattle.wy_verify.proofs.subjects.judge_bodies.Given as goal

abbrev pub invariant-loop-at : goal.invariant-loop-at
invariant-loop-at l = record {
  closed : AreClosed (image_of l.subject.file) l.pairs;
  goes : GoesBodies (image_of l.subject.file) l.subject.x l.subject.subject l.subject.subject.typing.bodies l.at;
}
