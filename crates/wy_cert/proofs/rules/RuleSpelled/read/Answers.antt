use Rattle.std.proofs.Common.{arith}
use Rattle.wy_cert.proofs.RuleFronts.{no_byte, no_rule}
use Rattle.wy_cert.proofs.rules.RuleSpelled.read.Goals as goal

pub returns-in_default-clause-bad : goal.returns-in_default-clause-bad
returns-in_default-clause-bad c = no_byte c.args.bytes.now c.in_default.len_below

pub returns-in-None-clause-bad : goal.returns-in-None-clause-bad
returns-in-None-clause-bad c = no_rule c.args.bytes.now (omega (arith, c.in-None.ensures.none))
