use Rattle.wy_lower.proofs.EmitSteps.{turns}
use Rattle.wy_lower.proofs.expressions.begin_second.Goals as goal

pub returns-clause-added : goal.returns-clause-added
returns-clause-added c = turns _ _ _ _ c.args.place c.args.test _ _ c.put.ensures c.len-next.ensures c.number-otherwise.ensures.exact c.replace.ensures
