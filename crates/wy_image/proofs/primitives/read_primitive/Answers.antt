use Rattle.std.proofs.Common.{arith}
use Rattle.wy_spelling.proofs.Forms.{no_byte, no_form}
use Rattle.wy_image.specs.PrimitiveLaws.{primitive_kind}
use Rattle.wy_image.proofs.PrimitiveForms.{other_form}
use Rattle.wy_image.proofs.primitives.read_primitive.Goals as goal

pub returns-in_default-clause-bad : goal.returns-in_default-clause-bad
returns-in_default-clause-bad c = no_byte primitive_kind c.args.bytes.now c.in_default.len_below

pub returns-in-None-clause-bad : goal.returns-in-None-clause-bad
returns-in-None-clause-bad c =
    no_form primitive_kind c.args.bytes.now (other_form c.args.bytes.now (omega (arith, c.in-None.ensures.none)))
