use Rattle.wy_lower.proofs.EmitSteps.{emits_found}
use Rattle.wy_lower.proofs.expressions.put_name.Goals as goal

pub returns : goal.returns
returns c = emits_found _ _ _ c.args.place (λ code. code) _ _ c.name_code-code.ensures c.put.ensures
