use Rattle.std.proofs.Common.{arith}
use Rattle.wy_spelling.proofs.IntFronts.{int_ends_early}
use Rattle.wy_spelling.proofs.ints.I64Spelled.read.Goals as goal

pub returns-in_default-clause-bad : goal.returns-in_default-clause-bad
returns-in_default-clause-bad c =
    int_ends_early c.args.bytes.now (omega (arith, c.in_default.len_below)) (λ i. omega (arith, c.type_inv.bytes i))
