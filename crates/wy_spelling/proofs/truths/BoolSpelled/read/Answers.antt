use Rattle.std.proofs.Common.{arith}
use Rattle.wy_spelling.specs.Kinds.{truth_kind}
use Rattle.wy_spelling.proofs.Forms.{no_byte}
use Rattle.wy_spelling.proofs.TruthFronts.{no_truth}
use Rattle.wy_spelling.proofs.truths.BoolSpelled.read.Goals as goal

pub returns-in_default-clause-bad : goal.returns-in_default-clause-bad
returns-in_default-clause-bad c = no_byte truth_kind c.args.bytes.now c.in_default.len_below

pub returns-in-None-clause-bad : goal.returns-in-None-clause-bad
returns-in-None-clause-bad c = no_truth c.args.bytes.now (omega (arith, c.in-None.ensures.none))
