use Rattle.std.specs.Option.{option_copied}
use Rattle.wy_device.specs.declared.deed.Event.TheVariants as event
use Rattle.wy_machine.proofs.Lines.{starved}
use Rattle.wy_machine.proofs.tracing.write_deed.Goals as goal

pub returns-in_err-event-clause-wrote : goal.returns-in_err-event-clause-wrote
returns-in_err-event-clause-wrote g c = starved (event.Deed (record { grant = c.args.grant.now; op = c.args.op.now; answer = option_copied c.args.answer })) (g.O.Sink.state c.args.out.now) _ c.from_residual.ensures.1
