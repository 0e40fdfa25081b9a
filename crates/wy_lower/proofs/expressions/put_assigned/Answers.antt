use Rattle.std.proofs.Common.{ℕ}
use Rattle.wy_code.specs.declared.instruction.Instruction.TheVariants.{Set}
use Rattle.wy_lower.proofs.EmitSteps.{emits_found, emits_then}
use Rattle.wy_lower.proofs.expressions.put_assigned.Goals as goal

pub returns : goal.returns
returns c =
    emits_then _ _ _ _ _ (emits_found _ _ _ c.args.place (λ (n : ℕ). Set n) _ _ (c.number-assigned.ensures.summed _ c.assigned_value.ensures) c.put.ensures) c.put-2.ensures
