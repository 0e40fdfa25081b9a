use Rattle.wy_verify.proofs.CalledMethods.{called_found}
use Rattle.wy_verify.proofs.types.call_fits.Goals as goal

pub returns-in-Some-clause-decided : goal.returns-in-Some-clause-decided
returns-in-Some-clause-decided c =
    called_found c.args.site.now c.args.known.now c.args.number c.args.arguments c.judged.result.now c.operand.result
    c.in-Some.method c.topmost.result.now c.parameters_fit.result c.judged.ensures c.operand.ensures c.in-Some.ensures
    c.topmost.ensures c.parameters_fit.ensures.decided
