use Rattle.std.proofs.Common.{◌≡◌, map, drop, false}
use Rattle.wy_certify.specs.Gathered.{Writes, Gives}
use Rattle.wy_certify.specs.Written.{back_steps, joined_effect, stmt_effect}
use Rattle.wy_certify.specs.Writer.{context_of}
use Rattle.wy_certify.proofs.writer.Writer.close_statements.Given as goal

abbrev pub invariant-loop-i : goal.invariant-loop-i
invariant-loop-i l = record {
  enough : l.out.wanting ≡ false → l.initial.out.wanting ≡ false;
  whole : l.effects ≡ map (stmt_effect (context_of l.self)) l.statements.items →
      Writes (back_steps (context_of l.self) (drop l.i l.statements.items) l.fn.last.typ l.fn.last.effect) (Gives l.fn.last.typ (joined_effect (context_of l.self) (drop l.i l.statements.items) l.fn.last.effect) l.rest) l.initial.out l.out;
}
