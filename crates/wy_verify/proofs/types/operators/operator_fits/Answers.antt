use Rattle.wy_verify.proofs.Operands.{operator_same}
use Rattle.wy_verify.proofs.types.operators.operator_fits.Goals as goal

pub returns : goal.returns
returns c = λ s. operator_same s c.args.known.now c.args.operator c.has_operands.result c.has_operands.ensures
