use Rattle.wy_machine.proofs.Telling.{observed_so}
use Rattle.wy_machine.proofs.step.perform_or_end.Goals as goal

pub returns-clause-step : goal.returns-clause-step
returns-clause-step g c = observed_so g.W.Observer.hears c.args.code.now c.args.machine.now.stack.running.instance _ _ _ _ _ _ _ _ _ _ c.went_on.ensures c.perform.ensures.step
