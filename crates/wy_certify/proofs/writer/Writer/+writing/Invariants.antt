use Rattle.std.proofs.Common.{◌≡◌, ◌++◌, map, take, drop, false}
use Rattle.wy_effects.specs.EffSet.{IsSet, union}
use Rattle.wy_types.specs.View.{values_of}
use Rattle.wy_certify.specs.Gathered.{Writes}
use Rattle.wy_certify.specs.Written.{all_steps, all_effect, stmt_effect, front_steps}
use Rattle.wy_certify.specs.Writer.{context_of}
use Rattle.wy_certify.proofs.writer.Writer.+writing.Given as goal

abbrev pub invariant-write_statements-loop-i : goal.invariant-write_statements-loop-i
invariant-write_statements-loop-i l = Writes (front_steps (context_of l.self) (take l.i l.statements.items)) (l.effects ≡ map (stmt_effect (context_of l.self)) (take l.i l.statements.items)) l.initial.out l.out

abbrev pub invariant-write_values-loop-i : goal.invariant-write_values-loop-i
invariant-write_values-loop-i l = record {
  enough : l.out.wanting ≡ false → l.initial.out.wanting ≡ false;
  steps : l.out.wanting ≡ false → l.out.list ++ all_steps (context_of l.self) (values_of (drop l.i l.values.items)) (drop l.i l.types) ≡ l.initial.out.list ++ all_steps (context_of l.self) (values_of l.values.items) l.types;
  effect : l.out.wanting ≡ false → union l.sofar (all_effect (context_of l.self) (values_of (drop l.i l.values.items)) (drop l.i l.types)) ≡ all_effect (context_of l.self) (values_of l.values.items) l.types;
  set : IsSet 512 l.sofar;
}
