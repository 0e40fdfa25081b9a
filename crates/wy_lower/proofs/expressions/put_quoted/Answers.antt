use Rattle.wy_code.specs.declared.instruction.Constant.TheVariants as constant
use Rattle.wy_code.specs.declared.instruction.Instruction.TheVariants.{Push}
use Rattle.std.proofs.Common.{ℕ, subst}
use Rattle.wy_lower.specs.Emits.{Finds}
use Rattle.wy_lower.proofs.EmitSteps.{emits_found}
use Rattle.wy_lower.proofs.expressions.put_quoted.Goals as goal

pub returns : goal.returns
returns c =
    let found = subst (λ (n : ℕ). Finds c.args.out.now c.number-number.new.self c.number-number.result n) c.place_in.ensures c.number-number.ensures.exact in
    emits_found _ _ _ c.args.place (λ (n : ℕ). Push (constant.Text n)) _ _ found c.put.ensures
