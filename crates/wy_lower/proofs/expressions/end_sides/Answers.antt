use Rattle.wy_lower.proofs.EmitSteps.{ends}
use Rattle.wy_lower.proofs.expressions.end_sides.Goals as goal

pub returns : goal.returns
returns c = ends _ _ _ c.args.place c.args.first _ _ c.len-next.ensures c.number-end.ensures.exact c.replace.ensures
