use Rattle.wy_machine.specs.Observing.{entering, event_told}
use Rattle.wy_machine.proofs.Lines.{starved}
use Rattle.wy_machine.proofs.tracing.write_entry.Goals as goal

pub returns-in_err-event-clause-wrote : goal.returns-in_err-event-clause-wrote
returns-in_err-event-clause-wrote g c = starved (event_told (entering c.args.code.now c.args.instance c.args.body)) (g.O.Sink.state c.args.out.now) _ c.from_residual.ensures.1
