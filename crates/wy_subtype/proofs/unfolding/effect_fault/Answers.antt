use Rattle.std.proofs.Common.{rules}
use Rattle.std.proofs.lemmas.Result.{IfOk-weaker}
use Rattle.wy_types.specs.Program.{program_of}
use Rattle.wy_subtype.proofs.Asking.{none_allowed, some_lacks}
use Rattle.wy_subtype.proofs.unfolding.effect_fault.Goals as goal

pub returns-in-Annotated-clause-none : goal.returns-in-Annotated-clause-none
returns-in-Annotated-clause-none c =
    IfOk-weaker c.lacking.result _ _
    (none_allowed (program_of c.args.order.now.core.now) c.args.order.now.scope c.args.order.now.mode (search rules) c.args.left.now c.args.right.now c.widened.result c.widened.ensures.exact)
    c.lacking.ensures.none

pub returns-in-Annotated-clause-some : goal.returns-in-Annotated-clause-some
returns-in-Annotated-clause-some c =
    IfOk-weaker c.lacking.result _ _
    (some_lacks (program_of c.args.order.now.core.now) c.args.order.now.scope c.args.order.now.mode (search rules) c.args.left.now c.args.right.now c.widened.result c.widened.ensures.exact)
    c.lacking.ensures.some
