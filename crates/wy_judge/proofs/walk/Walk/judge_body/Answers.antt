use Rattle.std.proofs.Common.{◌≡◌, Err, Some}
use Rattle.wy_types.specs.Program.{program_of, scope_of, body_of}
use Rattle.wy_judge.specs.Fit as fit
use Rattle.wy_judge.specs.Judging.{BlockFitsTo}
use Rattle.wy_judge.specs.Lacks.{IsBodyFaultOf}
use Rattle.wy_judge.specs.Results.{fit_of}
use Rattle.wy_judge.specs.Walking.{BodyTo}
use Rattle.wy_judge.proofs.Contexts.{result_in_range}
use Rattle.wy_judge.proofs.Results.{handed_on, fault_weaker, passed_weaker}
use Rattle.wy_judge.proofs.ScopeParts.{body_by_block, body_fails, owner_there}
use Rattle.wy_judge.proofs.walk.Walk.judge_body.Goals as goal

pub fit_block-requires-clause-walk : goal.fit_block-requires-clause-walk
fit_block-requires-clause-walk c =
    let p = program_of c.args.self.now.core.now in
    let s = scope_of c.args.self.now.scope.now in
    record { context = c.requires.walk.context; owner = owner_there p c.args.self.now.number s c.requires.walk.context (body_of c.args.body.now) c.requires.in_scope }

pub fit_block-requires-clause-expected : goal.fit_block-requires-clause-expected
fit_block-requires-clause-expected c =
    result_in_range (program_of c.args.self.now.core.now) c.args.self.now.number (scope_of c.args.self.now.scope.now) c.requires.walk.context (body_of c.args.body.now) c.requires.in_scope

pub returns-in_err-block-clause-outcome : goal.returns-in_err-block-clause-outcome
returns-in_err-block-clause-outcome c =
    let p = program_of c.args.self.now.core.now in
    let k = c.args.self.now.number in
    let s = scope_of c.args.self.now.scope.now in
    let old = c.args.known.now.vals.items in
    let x = body_of c.args.body.now in
    let new = c.fit_block.new.known.vals.items in
    let r = c.in_err-block.field-0.0 in
    let e : c.from_residual.result ≡ Err r = handed_on c.from_residual.result r c.from_residual.ensures.1 in
    rw e (fault_weaker r (λ f. BlockFitsTo p k s (Some x.owner) old new x.block x.signature.result (fit.Fails f)) (λ f. BodyTo p k s old new x (Some f)) (λ f h. body_fails p k s c.requires.walk.context x old new f h) c.in_err-block.ensures.outcome)

pub returns-clause-outcome : goal.returns-clause-outcome
returns-clause-outcome c =
    let p = program_of c.args.self.now.core.now in
    let k = c.args.self.now.number in
    let s = scope_of c.args.self.now.scope.now in
    let old = c.args.known.now.vals.items in
    let x = body_of c.args.body.now in
    let new = c.fit_block.new.known.vals.items in
    let u = fit_of c.in_ok-block.block in
    passed_weaker c.judge_fit.result (λ o. IsBodyFaultOf p k s x.place x.signature.effect u o) (λ o. BodyTo p k s old new x o)
    (λ o r. body_by_block p k s c.requires.walk.context x old new u o c.in_ok-block.ensures.outcome r)
    c.judge_fit.ensures
