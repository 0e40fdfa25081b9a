use Rattle.wy_verify.proofs.CalledMethods.{within_found}
use Rattle.wy_verify.proofs.types.call_passes.Goals as goal

pub returns-in-Some : goal.returns-in-Some
returns-in-Some c =
    within_found c.args.site.now c.args.known.now c.args.number c.args.arguments c.judged.result.now c.operand.result
    c.in-Some.method c.is_within.result c.judged.ensures c.operand.ensures c.in-Some.ensures c.is_within.ensures
