use Rattle.wy_machine.proofs.Quiet.{out_so, wants_so}
use Rattle.wy_machine.proofs.step.operate_or_end.Goals as goal

pub returns-clause-step : goal.returns-clause-step
returns-clause-step c = λ d. out_so c.args.code.now _ _ _ _ _ _ _ c.went_on.ensures (c.operate.ensures.step d)

pub returns-clause-wants : goal.returns-clause-wants
returns-clause-wants c = wants_so _ _ _ c.went_on.ensures c.operate.ensures.wants
