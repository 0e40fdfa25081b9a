use Rattle.std.proofs.Common.{arith}
use Rattle.wy_spelling.proofs.Forms.{no_byte, no_form}
use Rattle.wy_image.specs.OperatorLaws.{operator_kind}
use Rattle.wy_image.proofs.OperatorForms.{other_form}
use Rattle.wy_image.proofs.operators.read_operator.Goals as goal

pub returns-in_default-clause-bad : goal.returns-in_default-clause-bad
returns-in_default-clause-bad c = no_byte operator_kind c.args.bytes.now c.in_default.len_below

pub returns-in-None-clause-bad : goal.returns-in-None-clause-bad
returns-in-None-clause-bad c =
    no_form operator_kind c.args.bytes.now (other_form c.args.bytes.now (omega (arith, c.in-None.ensures.none)))
