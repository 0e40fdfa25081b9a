use Rattle.std.proofs.Common.{subst}
use Rattle.std.proofs.lemmas.Result.{IfOk-weaker}
use Rattle.wy_effects.specs.EffSet.{replace}
use Rattle.wy_effects.specs.Bounds.{IsWidened}
use Rattle.wy_types.specs.Program.{program_of}
use Rattle.wy_types.specs.Bounds.{bounds_of}
use Rattle.wy_premises.proofs.RespectedBounds.{none_within, some_missing}
use Rattle.wy_premises.proofs.respecting.outside.Goals as goal

pub returns-clause-none : goal.returns-clause-none
returns-clause-none c =
    let bounds = bounds_of (program_of c.args.core.now) c.args.scope in
    let is = subst (λ v. IsWidened bounds v c.widened.result) c.in_ok-there.ensures c.widened.ensures.exact in
    IfOk-weaker c.least_missing.result _ _ (none_within bounds c.args.set.now (replace c.args.sets.now c.args.bound.now) c.widened.result is) c.least_missing.ensures.none

pub returns-clause-some : goal.returns-clause-some
returns-clause-some c =
    let bounds = bounds_of (program_of c.args.core.now) c.args.scope in
    let is = subst (λ v. IsWidened bounds v c.widened.result) c.in_ok-there.ensures c.widened.ensures.exact in
    IfOk-weaker c.least_missing.result _ _ (some_missing bounds c.args.set.now (replace c.args.sets.now c.args.bound.now) c.widened.result is) c.least_missing.ensures.some
