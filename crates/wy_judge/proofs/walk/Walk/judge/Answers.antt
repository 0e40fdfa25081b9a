use Rattle.std.proofs.Common.{◌≡◌, [], Err, Some, None, sym, ◌∙◌}
use Rattle.wy_types.specs.Program.{program_of, scope_of}
use Rattle.wy_rules.specs.Typing.{fields_of}
use Rattle.wy_judge.specs.declared.scopes.Judged.TheVariants.{Fails}
use Rattle.wy_judge.specs.Outcomes.{pure_fault}
use Rattle.wy_judge.specs.Walking.{StartsTo, BodiesTo, IsSealFault, judged_of, IsJudged}
use Rattle.wy_judge.proofs.Judgings.{judged_pure, judged_start, judged_body}
use Rattle.wy_judge.proofs.ScopeParts.{judged_at_seal}
use Rattle.wy_judge.proofs.Results.{handed_on, fault_weaker, passed_weaker}
use Rattle.wy_judge.proofs.Walks.{walked_start}
use Rattle.wy_judge.proofs.walk.Walk.judge.Goals as goal

pub returns-in_err-stop_at : goal.returns-in_err-stop_at
returns-in_err-stop_at c =
    let p = program_of c.args.self.now.core.now in
    let k = c.args.self.now.number in
    let s = scope_of c.args.self.now.scope.now in
    let r = c.in_err-stop_at.field-0.0 in
    let e : c.from_residual.result ≡ Err r = handed_on c.from_residual.result r c.from_residual.ensures.1 in
    rw e (fault_weaker r (λ f. Some f ≡ c.pure_fault.result) (λ f. IsJudged p k s (Fails f)) (λ f b. judged_pure p k s f (sym c.pure_fault.ensures ∙ sym b)) c.in_err-stop_at.ensures)

pub returns-in_err-judge_start : goal.returns-in_err-judge_start
returns-in_err-judge_start c =
    let p = program_of c.args.self.now.core.now in
    let k = c.args.self.now.number in
    let s = scope_of c.args.self.now.scope.now in
    let pure : pure_fault s.kind (fields_of s 0) s.names ≡ None = sym c.pure_fault.ensures ∙ sym c.in_ok-stop_at.ensures in
    let new = c.judge_start.new.known.vals.items in
    let r = c.in_err-judge_start.field-0.0 in
    let e : c.from_residual-in_err-judge_start.result ≡ Err r = handed_on c.from_residual-in_err-judge_start.result r c.from_residual-in_err-judge_start.ensures.1 in
    rw e (fault_weaker r (λ f. StartsTo p k s [] new (Some f)) (λ f. IsJudged p k s (Fails f)) (λ f b. judged_start p k s new f pure b) c.in_err-judge_start.ensures.outcome)

pub judge_bodies-requires-clause-walked : goal.judge_bodies-requires-clause-walked
judge_bodies-requires-clause-walked c =
    let p = program_of c.args.self.now.core.now in
    let k = c.args.self.now.number in
    let s = scope_of c.args.self.now.scope.now in
    walked_start p k s c.requires.walk.context c.judge_start.new.known.vals.items c.in_ok-judge_start.ensures.outcome

pub returns-in_err-judge_bodies : goal.returns-in_err-judge_bodies
returns-in_err-judge_bodies c =
    let p = program_of c.args.self.now.core.now in
    let k = c.args.self.now.number in
    let s = scope_of c.args.self.now.scope.now in
    let pure : pure_fault s.kind (fields_of s 0) s.names ≡ None = sym c.pure_fault.ensures ∙ sym c.in_ok-stop_at.ensures in
    let start = c.judge_start.new.known.vals.items in
    let new = c.judge_bodies.new.known.vals.items in
    let r = c.in_err-judge_bodies.field-0.0 in
    let e : c.from_residual-in_err-judge_bodies.result ≡ Err r = handed_on c.from_residual-in_err-judge_bodies.result r c.from_residual-in_err-judge_bodies.ensures.1 in
    rw e (fault_weaker r (λ f. BodiesTo p k s start new (Some f)) (λ f. IsJudged p k s (Fails f)) (λ f b. judged_body p k s start new f pure c.in_ok-judge_start.ensures.outcome b) c.in_err-judge_bodies.ensures.outcome)

pub returns : goal.returns
returns c =
    let p = program_of c.args.self.now.core.now in
    let k = c.args.self.now.number in
    let s = scope_of c.args.self.now.scope.now in
    let pure : pure_fault s.kind (fields_of s 0) s.names ≡ None = sym c.pure_fault.ensures ∙ sym c.in_ok-stop_at.ensures in
    let start = c.judge_start.new.known.vals.items in
    let new = c.judge_bodies.new.known.vals.items in
    passed_weaker c.judge_seal.result (λ o. IsSealFault p k s o) (λ o. IsJudged p k s (judged_of new o))
    (λ o e. judged_at_seal p k s start new o c.requires.walk.context pure c.in_ok-judge_start.ensures.outcome c.in_ok-judge_bodies.ensures.outcome e)
    c.judge_seal.ensures
