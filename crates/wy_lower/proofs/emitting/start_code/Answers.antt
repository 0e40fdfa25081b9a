use Rattle.std.proofs.lemmas.Result.{IfOk-weaker}
use Rattle.wy_types.specs.Program.{scope_of}
use Rattle.wy_lower.specs.EmitBodies.{whole_program, whole_starts}
use Rattle.wy_lower.proofs.EmitBodies.{start_is}
use Rattle.wy_lower.proofs.emitting.start_code.Goals as goal

pub returns : goal.returns
returns c =
    IfOk-weaker c.body_with.result _ _ (λ y h.
    start_is (whole_program c.args.whole.now) (whole_starts c.args.whole.now) (scope_of c.args.scope.now) y _ _ _ _ _ h.1 h.0 c.inside_start-inside.ensures c.in_ok-name.ensures c.emit_start.ensures c.put.ensures) (c.body_with.ensures _ c.start_operands.ensures)
