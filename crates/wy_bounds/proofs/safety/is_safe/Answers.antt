use Rattle.std.proofs.lemmas.Result.{IfOk-weaker}
use Rattle.wy_bounds.proofs.safety.is_safe.Goals as goal

pub answer_by-requires-clause-built : goal.answer_by-requires-clause-built
answer_by-requires-clause-built c = (c.args.t.now, c.in_ok-matrix.ensures)

pub returns : goal.returns
returns c = IfOk-weaker c.answer_by.result _ _ (λ v h. h c.args.t.now c.in_ok-matrix.ensures) c.answer_by.ensures
