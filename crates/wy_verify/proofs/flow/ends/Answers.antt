use Rattle.std.proofs.Common.{arith}
use Rattle.wy_verify.proofs.Flows.{end_if}
use Rattle.wy_verify.proofs.flow.ends.Goals as goal

pub returns-else-at-len : goal.returns-else-at-len
returns-else-at-len c = λ js are.
    end_if c.args.site.now c.args.jumps.now js c.args.at c.has.result are
    (λ h. c.if-at-len.false (let e = c.len-len.ensures in omega (arith, h, e))) c.has.ensures
