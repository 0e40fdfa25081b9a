use Rattle.std.proofs.Common.{Err, ap, ◌∙◌}
use Rattle.wy_machine.proofs.Lines.{wrote_part, starved}
use Rattle.wy_machine.proofs.tracing.write_event.Goals as goal

pub returns-in_err-line-clause-wrote : goal.returns-in_err-line-clause-wrote
returns-in_err-line-clause-wrote g c = starved c.args.event (g.O.Sink.state c.args.out.now) _ c.from_residual.ensures.1

pub returns-in-Err-Failed-clause-wrote : goal.returns-in-Err-Failed-clause-wrote
returns-in-Err-Failed-clause-wrote g c =
    let failed = c.write_all.ensures.failed (c.in-Err-Failed.is ∙ ap Err c.in-Err-Failed.field-0-is) in
    (wrote_part c.args.event c.as_bytes.result.now _ _ (c.as_bytes.ensures ∙ c.in_ok-line.ensures) failed.0, failed.1)

pub returns-clause-wrote : goal.returns-clause-wrote
returns-clause-wrote g c =
    wrote_part c.args.event c.as_bytes.result.now _ _ (c.as_bytes.ensures ∙ c.in_ok-line.ensures) (c.write_all.ensures.starved (c.in-Err-Memory.is ∙ ap Err c.in-Err-Memory.field-0-is))
