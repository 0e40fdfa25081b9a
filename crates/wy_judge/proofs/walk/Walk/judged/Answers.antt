use Rattle.std.proofs.Common.{◌≡◌, sym, ap, subst, ◌∙◌}
use Rattle.std.specs.Prelude.{Ok, Err}
use Rattle.std.proofs.lemmas.Result.{IfOk-weaker}
use Rattle.wy_types.specs.Program.{program_of, scope_of}
use Rattle.wy_judge.specs.Walking.{settled_types, judged_of, IsStopped, IsJudged}
use Rattle.wy_judge.specs.declared.scopes.Judged.TheVariants.{Passes}
use Rattle.wy_judge.proofs.Results.{passed_none, passed_fault}
use Rattle.wy_judge.proofs.walk.Walk.judged.Goals as goal

pub returns-in_ok-types-in-Ok : goal.returns-in_ok-types-in-Ok
returns-in_ok-types-in-Ok c =
    let p = program_of c.args.self.now.core.now in
    let k = c.args.self.now.number in
    let s = scope_of c.args.self.now.scope.now in
    let is = c.in-Ok.is in
    let passes = passed_none c.judge.result _ (λ o. IsJudged p k s (judged_of c.judge.new.known.vals.items o)) is c.judge.ensures in
    subst (λ ts. IsJudged p k s (Passes ts)) (sym (c.in_ok-types-in-Ok.ensures ∙ ap settled_types c.as_slice.ensures.value)) passes

pub returns-in-Err : goal.returns-in-Err
returns-in-Err c =
    let p = program_of c.args.self.now.core.now in
    let k = c.args.self.now.number in
    let s = scope_of c.args.self.now.scope.now in
    let is : c.judge.result ≡ Err c.in-Err.stop = c.in-Err.is in
    IfOk-weaker c.stopped.result (λ j. IsStopped c.in-Err.stop j) (λ j. IsJudged p k s j)
    (λ j e. subst (IsJudged p k s) (sym e.2) (passed_fault c.judge.result e.0 (λ o. IsJudged p k s (judged_of c.judge.new.known.vals.items o)) (is ∙ ap Err e.1) c.judge.ensures))
    c.stopped.ensures
