use Rattle.std.proofs.Common.{◌≡◌, ◌++◌, map, drop, false}
use Rattle.wy_types.specs.Program.{body_of}
use Rattle.wy_certify.specs.Written.{bodies_written}
use Rattle.wy_certify.specs.Writer.{context_of}
use Rattle.wy_certify.proofs.writer.Writer.write_bodies.Given as goal

abbrev pub invariant-loop-i : goal.invariant-loop-i
invariant-loop-i l = record {
  enough : l.out.wanting ≡ false → l.initial.out.wanting ≡ false;
  steps : l.out.wanting ≡ false → l.out.list ++ bodies_written (context_of l.self) (map body_of (drop l.i l.bodies)) ≡ l.initial.out.list ++ bodies_written (context_of l.self) (map body_of l.bodies);
}
