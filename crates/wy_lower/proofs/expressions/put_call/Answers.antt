use Rattle.std.proofs.Common.{ℕ, subst}
use Rattle.wy_code.specs.declared.instruction.Instruction.TheVariants.{Call}
use Rattle.wy_lower.specs.Emits.{Finds}
use Rattle.wy_lower.proofs.EmitSteps.{emits_found}
use Rattle.wy_lower.proofs.expressions.put_call.Goals as goal

pub returns : goal.returns
returns c =
    let found = subst (λ (n : ℕ). Finds c.args.out.now c.number-method.new.self c.number-method.result n) c.place_in.ensures c.number-method.ensures.exact in
    emits_found _ _ _ c.args.place (λ (n : ℕ). Call n c.args.arguments) _ _ found
    (emits_found _ _ _ c.args.place (λ (n : ℕ). Call c.number-method.result n) _ _ c.number-count.ensures.exact c.put.ensures)
